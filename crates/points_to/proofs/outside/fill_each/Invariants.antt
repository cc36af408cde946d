use Rattle.std.proofs.Common.{take}
use Rattle.dep_form.specs.declared.system.System.{System}
use Rattle.points_to.specs.declared.place.Place.TheVariants.{Cell, Written}
use Rattle.points_to.specs.Items.{Flows, OneOf, IfSome}
use Rattle.points_to.specs.Rules.{site, field_by}
use Rattle.points_to.specs.States.{Moves, IsShape}
use Rattle.points_to.proofs.outside.fill_each.Given as goal

abbrev pub invariant-loop-object : goal.invariant-loop-object
invariant-loop-object l = record {
  shape : IsShape l.found;
  moved : (s : System) → Moves s l.initial.found l.found (OneOf (λ b. IfSome (λ f. Flows (Written l.c) (Cell (site b) f)) (field_by l.system l.elements b)) (take l.object-index l.sites));
}
