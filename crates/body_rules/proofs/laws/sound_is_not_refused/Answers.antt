use Rattle.body_rules.proofs.OneLine.{not_refused}
use Rattle.body_rules.proofs.laws.sound_is_not_refused.Goals as goal

pub returns : goal.returns
returns c = not_refused
