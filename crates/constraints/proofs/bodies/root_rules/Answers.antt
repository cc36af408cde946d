use Rattle.constraint_rules.specs.Statements.{IsRootRule}
use Rattle.constraints.proofs.OfRules.{grown_members}
use Rattle.constraints.proofs.bodies.root_rules.Goals as goal

pub returns : goal.returns
returns c = λ p s names set e. grown_members (IsRootRule p s) _ c.push_root.new.rules.items c.new-rules.ensures.items (c.in_ok-push_root.ensures p s names set e)
