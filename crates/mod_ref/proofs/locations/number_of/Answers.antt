use Rattle.std.proofs.Common.{◌≡◌, ℕ, Some, ap, subst, sym}
use Rattle.std.specs.Prelude.{slice_get}
use Rattle.std.proofs.lemmas.Option.{same_Some, slice_get_within, get_or_from_slice_get}
use Rattle.mod_ref.specs.Locations.{location_cmp, location_eq}
use Rattle.mod_ref.proofs.Sorting.{found, missed, one_place}
use Rattle.mod_ref.proofs.Orders.{locations_exact}
use Rattle.mod_ref.proofs.locations.number_of.Goals as goal

pub returns-in-Ok : goal.returns-in-Ok
returns-in-Ok c =
    let xs = c.args.locations.now in
    let here = found location_eq location_cmp locations_exact xs c.args.location c.in-Ok.k c.in-Ok.ensures.bound c.in-Ok.ensures.ok in
    λ k. (
      λ e. subst (λ (n : ℕ). slice_get xs n ≡ Some c.args.location) (same_Some c.in-Ok.k k e) here,
      λ at. ap (λ (n : ℕ). Some n) (one_place location_eq location_cmp locations_exact xs c.args.location c.in-Ok.k k c.requires here at),
    )

pub returns-in-Err : goal.returns-in-Err
returns-in-Err c =
    let xs = c.args.locations.now in
    λ k. (
      λ e. absurd (cc e),
      λ at. absurd (missed location_eq location_cmp locations_exact xs c.args.location c.in-Err.field-0 c.requires c.in-Err.ensures.position (k, slice_get_within xs k c.args.location at, get_or_from_slice_get xs k c.args.location c.args.location at)),
    )
