use Rattle.std.proofs.Common.{[], take}
use Rattle.std.specs.Prelude.{map, All}
use Rattle.slicer_ids.specs.Order.{StatementBefore}
use Rattle.worklists.specs.Growth.{FromOne}
use Rattle.variable_tables.specs.Growth.{GrowsInOrder}
use Rattle.constraint_rules.specs.Settings.{place_of}
use Rattle.constraints.specs.Places.{IsPlaceIn, IsThere}
use Rattle.constraints.proofs.places.places.Given as goal

abbrev pub invariant-loop-body : goal.invariant-loop-body
invariant-loop-body l = record {
  order : GrowsInOrder StatementBefore [] (map place_of l.places.items) (FromOne IsPlaceIn (take l.body-index l.bodies));
  each : All (IsThere l.h l.bodies) l.places.items;
}
