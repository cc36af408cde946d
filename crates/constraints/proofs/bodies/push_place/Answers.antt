use Rattle.std.proofs.lemmas.Result.{on_ok_weaker}
use Rattle.constraint_rules.specs.Settings.{place_of}
use Rattle.constraint_rules.specs.Statements.{IsRuleAt}
use Rattle.constraints.proofs.OfRules.{rules_said}
use Rattle.constraints.proofs.bodies.push_place.Goals as goal

pub returns : goal.returns
returns c = λ p s names set at.
    let x = c.args.x.now in
    on_ok_weaker c.push_constraints.result
    (λ g. rules_said x.body.now.method c.as_slice.result.now c.in_ok-rules.rules.items (IsRuleAt p s names (place_of x)) c.args.constraints.now.items c.push_constraints.new.constraints.items
    c.as_slice.ensures.value (c.in_ok-rules.ensures p s names set at) g) c.push_constraints.ensures
