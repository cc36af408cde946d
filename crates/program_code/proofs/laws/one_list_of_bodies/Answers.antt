use Rattle.program_code.proofs.OneProgram.{one_list_of_bodies}
use Rattle.program_code.proofs.laws.one_list_of_bodies.Goals as goal

pub returns : goal.returns
returns c = λ p bodies sound bytes first second. one_list_of_bodies p sound bytes bodies first second
