use Rattle.std.proofs.Common.{take}
use Rattle.dep_form.specs.declared.system.System.{System}
use Rattle.points_to.specs.declared.place.Place.TheVariants.{Cell}
use Rattle.points_to.specs.Items.{Flows, OneOf, IfSome}
use Rattle.points_to.specs.Rules.{site, state_of}
use Rattle.points_to.specs.States.{Moves, IsShape}
use Rattle.points_to.proofs.outside.states_each.Given as goal

abbrev pub invariant-loop-object : goal.invariant-loop-object
invariant-loop-object l = record {
  shape : IsShape l.found;
  moved : (s : System) → Moves s l.initial.found l.found (OneOf (λ b. IfSome (λ f. Flows (Cell (site b) f) l.to) (state_of l.system b)) (take l.object-index l.sites));
}
