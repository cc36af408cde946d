use Rattle.std.proofs.Common.{arith}
use Rattle.std.proofs.lemmas.Option.{slice_get_within}
use Rattle.mod_ref.proofs.Touched.{told}
use Rattle.input_tables.specs.Uses.{IsFoundUse, IsUseAt}
use Rattle.input_tables.proofs.MethodUses.{use_is}
use Rattle.input_tables.proofs.uses.add_use.Goals as goal

pub add_found-requires : goal.add_found-requires
add_found-requires c = λ i e. omega (arith, c.requires.numbers, slice_get_within c.args.row.now i c.args.node ((c.place_in-place.ensures i).0 e))

pub returns : goal.returns
returns c = told c.add_found.result c.args.uses.now.items c.add_found.new.uses.items (IsFoundUse c.args.first c.point_of-point.result c.place_in-place.result c.args.location) (IsUseAt c.args.points.now c.args.first c.args.row.now c.args.pc c.args.node c.args.location)
    (use_is c.args.points.now c.args.first c.args.row.now c.args.pc c.args.node c.args.location c.point_of-point.result c.place_in-place.result c.point_of-point.ensures c.place_in-place.ensures) c.add_found.ensures
