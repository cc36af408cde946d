use Rattle.std.proofs.Common.{inl, arith}
use Rattle.constraint_form.proofs.LeastProgram.{text, main_type, main_spelled}
use Rattle.read_programs.proofs.laws.mains_have_an_argument.Goals as goal

pub returns : goal.returns
returns c = λ p m d x name method static. (d, x, name, text, main_type, method, main_spelled, inl (static, omega arith))
