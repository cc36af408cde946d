use Rattle.std.proofs.Common.{sym}
use Rattle.std.proofs.lemmas.Map.Made.{is_member-Decides}
use Rattle.std.proofs.lemmas.Option.{slice_get_within, get_or_from_slice_get}
use Rattle.mod_ref.specs.Locations.{location_cmp, location_eq}
use Rattle.mod_ref.proofs.Sorting.{decides, found, missed, not_true}
use Rattle.mod_ref.proofs.Orders.{locations_exact}
use Rattle.mod_ref.proofs.locations.is_listed.Goals as goal

pub returns-in-Ok : goal.returns-in-Ok
returns-in-Ok c =
    let xs = c.args.locations.now in
    let here = found location_eq location_cmp locations_exact xs c.args.location c.in-Ok.field-0 c.in-Ok.ensures.bound c.in-Ok.ensures.ok in
    sym ((is_member-Decides (decides location_eq location_cmp locations_exact) xs c.args.location).1 (c.in-Ok.field-0, c.in-Ok.ensures.bound, get_or_from_slice_get xs c.in-Ok.field-0 c.args.location c.args.location here))

pub returns-in-Err : goal.returns-in-Err
returns-in-Err c =
    let xs = c.args.locations.now in
    not_true _ (λ e. missed location_eq location_cmp locations_exact xs c.args.location c.in-Err.field-0 c.requires c.in-Err.ensures.position ((is_member-Decides (decides location_eq location_cmp locations_exact) xs c.args.location).0 e))
