use Rattle.std.proofs.Common.{◌≡◌, sym, ◌∙◌}
use Rattle.program_code.proofs.OneInstruction.{one_at, one_opcode}
use Rattle.program_code.proofs.laws.one_instruction.Goals as goal

pub returns-clause-instruction : goal.returns-clause-instruction
returns-clause-instruction c = λ p s a b i j coded h k. one_at p coded s a b i j h k

pub returns-clause-opcode : goal.returns-clause-opcode
returns-clause-opcode c = λ p s x y coded h k. let o = one_opcode p coded s (λ op. op ≡ x) (λ op. op ≡ y) h k in sym o.1 ∙ o.2
