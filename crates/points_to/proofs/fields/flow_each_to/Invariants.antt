use Rattle.std.proofs.Common.{take}
use Rattle.dep_form.specs.declared.system.System.{System}
use Rattle.points_to.specs.declared.place.Place.TheVariants.{Cell}
use Rattle.points_to.specs.Items.{Flows, OneOf}
use Rattle.points_to.specs.Rules.{site}
use Rattle.points_to.specs.States.{Moves, IsShape}
use Rattle.points_to.proofs.fields.flow_each_to.Given as goal

abbrev pub invariant-loop-object : goal.invariant-loop-object
invariant-loop-object l = record {
  shape : IsShape l.found;
  moved : (s : System) → Moves s l.initial.found l.found (OneOf (λ o. Flows (Cell (site o) l.field) l.to) (take l.object-index l.sites));
}
