use Rattle.folder_form.proofs.OneWalk.{one_end}
use Rattle.folder_form.proofs.laws.one_walk.Goals as goal

pub returns : goal.returns
returns c = λ m folder a b h g. one_end m folder a b h.1 g.1
