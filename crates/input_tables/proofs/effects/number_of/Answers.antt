use Rattle.std.proofs.Common.{◌≡◌, ℕ, Some, ap, subst, sym}
use Rattle.std.specs.Prelude.{slice_get}
use Rattle.std.proofs.lemmas.Option.{same_Some, slice_get_within, get_or_from_slice_get}
use Rattle.slicer_ids.specs.declared.ids.LocId.{LocId}
use Rattle.mod_ref.specs.Locations.{location_cmp, location_eq}
use Rattle.mod_ref.proofs.Sorting.{found, missed, one_place}
use Rattle.mod_ref.proofs.Orders.{locations_exact}
use Rattle.input_tables.proofs.EffectOrder.{locations_rise}
use Rattle.input_tables.proofs.effects.number_of.Goals as goal

abbrev loc : ℕ → LocId
loc n = record { 0 = n }

pub returns-in-Ok : goal.returns-in-Ok
returns-in-Ok c =
    let xs = c.args.locations.now in
    let rise = locations_rise xs c.requires.order in
    let here = found location_eq location_cmp locations_exact xs c.args.location c.in-Ok.n c.in-Ok.ensures.bound c.in-Ok.ensures.ok in
    λ k. (
      λ e. subst (λ (z : LocId). slice_get xs z.0 ≡ Some c.args.location) (same_Some (loc c.in-Ok.n) k e) here,
      λ at. ap (λ (i : ℕ). Some (loc i)) (one_place location_eq location_cmp locations_exact xs c.args.location c.in-Ok.n k.0 rise here at),
    )

pub returns-in-Err : goal.returns-in-Err
returns-in-Err c =
    let xs = c.args.locations.now in
    λ k. (
      λ e. absurd (cc e),
      λ at. absurd (missed location_eq location_cmp locations_exact xs c.args.location c.in-Err.field-0 (locations_rise xs c.requires.order) c.in-Err.ensures.position (k.0, slice_get_within xs k.0 c.args.location at, get_or_from_slice_get xs k.0 c.args.location c.args.location at)),
    )
