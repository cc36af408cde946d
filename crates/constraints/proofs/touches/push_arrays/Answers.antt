use Rattle.std.proofs.Common.{◌≡◌, ◌-◌, true}
use Rattle.std.proofs.lemmas.Result.{on_ok_weaker}
use Rattle.dep_form.specs.Constraints.{elements_field, length_field}
use Rattle.constraints.specs.Touches.{MadeOf, IsOneSite}
use Rattle.constraints.proofs.OfTouches.{both_touched}
use Rattle.constraints.proofs.touches.push_arrays.Goals as goal

pub returns : goal.returns
returns c = λ p s names set.
    let first = c.args.numbers.first in
    let count = c.args.numbers.count in
    on_ok_weaker c.push_inner.result
    (λ g. both_touched c.args.place true (MadeOf (IsOneSite first count) (λ h. h ≡ length_field s)) (MadeOf (IsOneSite first (count - 1)) (λ h. h ≡ elements_field s))
    c.args.touches.now.items c.push_lengths.new.touches.items c.push_inner.new.touches.items (c.in_ok-push_lengths.ensures p s names set) g)
    (c.push_inner.ensures p s names set)
