use Rattle.std.proofs.Common.{refl}
use Rattle.constraints.proofs.call_sites.push_argument.Goals as goal

pub returns-in_ok-push-in-Some : goal.returns-in_ok-push-in-Some
returns-in_ok-push-in-Some c = (c.in-Some.var, c.in_ok-push-in-Some.ensures.items, λ p s names set at. (c.in-Some.ensures p s names set at c.in-Some.var).1 refl)
