use Rattle.constraint_rules.specs.Settings.{place_of}
use Rattle.constraint_rules.specs.Statements.{IsRuleAt}
use Rattle.constraints.proofs.OfRules.{grown_members}
use Rattle.constraints.proofs.bodies.rules_of.Goals as goal

pub returns : goal.returns
returns c = λ p s names set at. grown_members (IsRuleAt p s names (place_of c.args.x.now)) _ c.push_rules.new.rules.items c.new-rules.ensures.items (c.in_ok-push_rules.ensures p s names set at)
