use Rattle.body_form.proofs.OneReach.{one_reach}
use Rattle.body_form.proofs.laws.one_reach.Goals as goal

pub returns : goal.returns
returns c = one_reach
