use Rattle.constraint_rules.proofs.OfTargets.{goes_one}
use Rattle.constraint_rules.proofs.calls.target.Goals as goal

pub returns : goal.returns
returns c = λ p s names set placed.
    goes_one c.args.t.now c.args.x.now p s names set placed c.in_ok-found.found c.concrete_of.result (c.in_ok-found.ensures p s names set placed) (λ m. c.concrete_of.ensures p m set.of)
