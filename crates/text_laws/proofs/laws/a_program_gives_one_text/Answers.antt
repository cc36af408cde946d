use Rattle.text_laws.proofs.SameScripts.{one_text_of_program}
use Rattle.text_laws.proofs.laws.a_program_gives_one_text.Goals as goal

pub returns : goal.returns
returns c = one_text_of_program
