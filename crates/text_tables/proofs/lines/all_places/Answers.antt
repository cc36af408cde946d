use Rattle.std.proofs.Common.{◌≡◌, ℕ, [], length, refl, subst, arith}
use Rattle.worklists.proofs.Growing.{FromBelow}
use Rattle.mod_ref.specs.Gains.{Gains}
use Rattle.mod_ref.proofs.Gaining.{gained, gains_next, gains_start}
use Rattle.text_tables.specs.LineGroups.{IsPlaceAt}
use Rattle.text_tables.proofs.lines.all_places.Goals as goal

pub loop-m-init : goal.loop-m-init
loop-m-init c = gains_start (IsPlaceAt c.args.texts.now) c.new-places.result.items c.new-places.ensures.items

pub loop-m-preserved : goal.loop-m-preserved
loop-m-preserved c = gains_next (IsPlaceAt c.args.texts.now) c.loop-m.m [] c.loop-m.places.items c.add_method.new.places.items c.loop-m.invariant c.in_ok-add_method.ensures

pub returns : goal.returns
returns c =
    let end : c.loop-m.m ≡ length c.args.texts.now = omega (arith, c.loop-m-test.false, c.loop-m.auto.m-end) in
    gained [] c.loop-m.places.items (FromBelow (IsPlaceAt c.args.texts.now) (length c.args.texts.now)) refl
    (subst (λ (i : ℕ). Gains [] c.loop-m.places.items (FromBelow (IsPlaceAt c.args.texts.now) i)) end c.loop-m.invariant)
