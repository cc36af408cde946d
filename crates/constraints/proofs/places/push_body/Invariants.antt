use Rattle.std.specs.Prelude.{List, map, take, All, Contains}
use Rattle.slicer_ids.specs.Order.{StatementBefore}
use Rattle.worklists.specs.Growth.{FromOne}
use Rattle.class_form.specs.declared.body.Body.{Body}
use Rattle.variable_tables.specs.Growth.{GrowsInOrder}
use Rattle.constraint_rules.specs.Settings.{place_of}
use Rattle.constraints.specs.Places.{IsPlaceAt, IsThere}
use Rattle.constraints.proofs.places.push_body.Given as goal

abbrev pub invariant-loop-point : goal.invariant-loop-point
invariant-loop-point l = record {
  order : GrowsInOrder StatementBefore (map place_of l.initial.places.items) (map place_of l.places.items) (FromOne (IsPlaceAt l.body) (take l.point-index l.point-items));
  each : (bodies : List Body) → Contains bodies l.body → All (IsThere l.h bodies) l.initial.places.items → All (IsThere l.h bodies) l.places.items;
}
