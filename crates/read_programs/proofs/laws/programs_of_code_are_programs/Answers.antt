use Rattle.read_programs.proofs.Bodies.{is_program}
use Rattle.read_programs.proofs.laws.programs_of_code_are_programs.Goals as goal

pub returns : goal.returns
returns c = λ p coded. is_program p coded
