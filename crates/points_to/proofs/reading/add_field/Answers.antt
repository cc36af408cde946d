use Rattle.std.proofs.Common.{subst, sym, ◌<◌}
use Rattle.points_to.specs.declared.place.Place.TheVariants.{Cell}
use Rattle.points_to.specs.Items.{At}
use Rattle.points_to.specs.States.{Knows}
use Rattle.slicer_ids.specs.Sets.{IsOrderedListOf}
use Rattle.points_to.proofs.reading.add_field.Goals as goal

pub add_cells-requires-clause-numbers : goal.add_cells-requires-clause-numbers
add_cells-requires-clause-numbers c = subst (λ xs. IsOrderedListOf (λ a b. a < b) xs (λ n. Knows c.args.found.now (At (Cell c.args.object c.args.field) n))) (sym c.as_slice.ensures.value) c.in_ok-numbers.ensures
