use Rattle.read_programs.proofs.Operands.{call_type}
use Rattle.read_programs.proofs.laws.calls_have_types.Goals as goal

pub returns : goal.returns
returns c = λ p t coded sound call. call_type p coded sound t call
