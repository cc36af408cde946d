use Rattle.std.proofs.Common.{◌≡◌, ◌-◌, true, refl, subst}
use Rattle.std.proofs.lemmas.Result.{on_ok_weaker}
use Rattle.dep_form.specs.Constraints.{elements_field}
use Rattle.variable_tables.specs.Growth.{GrowsInOrder}
use Rattle.constraints.specs.Touches.{MadeOf, IsOneSite, IsTouchOf, TouchRises}
use Rattle.constraints.proofs.OfTouches.{field_said}
use Rattle.constraints.proofs.touches.push_inner.Goals as goal

pub returns-in-Some : goal.returns-in-Some
returns-in-Some c = λ p s names set.
    let place = c.args.place in
    let first = c.args.numbers.first in
    let old = c.args.touches.now.items in
    let new = c.push_sites.new.touches.items in
    on_ok_weaker c.push_sites.result
    (λ g. field_said place (IsOneSite first (c.args.numbers.count - 1)) c.in-Some.field (elements_field s) old new ((c.in-Some.ensures p s names set c.in-Some.field).1 refl) (subst (λ n. GrowsInOrder TouchRises old new (IsTouchOf place true (MadeOf (IsOneSite first n) (λ h. h ≡ c.in-Some.field)))) c.saturating_sub-inner.ensures g))
    c.push_sites.ensures
