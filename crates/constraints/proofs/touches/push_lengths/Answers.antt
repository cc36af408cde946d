use Rattle.std.proofs.Common.{refl}
use Rattle.std.proofs.lemmas.Result.{on_ok_weaker}
use Rattle.dep_form.specs.Constraints.{length_field}
use Rattle.constraints.specs.Touches.{IsOneSite}
use Rattle.constraints.proofs.OfTouches.{field_said}
use Rattle.constraints.proofs.touches.push_lengths.Goals as goal

pub returns-in-Some : goal.returns-in-Some
returns-in-Some c = λ p s names set.
    let place = c.args.place in
    let first = c.args.numbers.first in
    let old = c.args.touches.now.items in
    let new = c.push_sites.new.touches.items in
    on_ok_weaker c.push_sites.result
    (λ g. field_said place (IsOneSite first c.args.numbers.count) c.in-Some.field (length_field s) old new ((c.in-Some.ensures p s names set c.in-Some.field).1 refl) g)
    c.push_sites.ensures
