use Rattle.std.proofs.Common.{◌≡◌, ◌↔◌, ℕ, length, take, Contains}
use Rattle.bytecode.specs.Starts.{pcs, IsMarked}
use Rattle.bytecode.proofs.starts.marks_of.Given as goal

abbrev pub invariant-loop-instr : goal.invariant-loop-instr
invariant-loop-instr l =
    record { size : length l.marks.items ≡ l.size; exact : (pc : ℕ) → IsMarked l.marks.items pc ↔ Contains (pcs (take l.instr-index l.instrs)) pc }
