use Rattle.folder_form.proofs.SomeWalk.{from_here}
use Rattle.folder_form.proofs.laws.each_folder_is_walked.Goals as goal

pub returns : goal.returns
returns c = λ m folder is. let w = from_here m folder in (w.0, (is, w.1))
