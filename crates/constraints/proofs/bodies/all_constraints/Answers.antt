use Rattle.constraints.proofs.OfRules.{constraints_listed}
use Rattle.constraints.proofs.bodies.all_constraints.Goals as goal

pub returns : goal.returns
returns c = λ p s names set all e number.
    constraints_listed p set.of.read s names c.args.places.now all c.args.root number c.as_slice.result.now c.in_ok-rules.rules.items c.as_slice.ensures.value
    (c.in_ok-rules.ensures p s names set e) c.in_ok-constraints.constraints.items c.push_constraints.new.constraints.items (c.in_ok-constraints.ensures p s names set all.each) c.in_ok-push_constraints.ensures
