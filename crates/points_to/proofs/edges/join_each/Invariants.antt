use Rattle.std.proofs.Common.{take}
use Rattle.dep_form.specs.declared.system.System.{System}
use Rattle.points_to.specs.Items.{OneOf}
use Rattle.points_to.specs.Rules.{Joins}
use Rattle.points_to.specs.States.{Moves, IsShape}
use Rattle.points_to.proofs.edges.join_each.Given as goal

abbrev pub invariant-loop-target : goal.invariant-loop-target
invariant-loop-target l = record {
  shape : IsShape l.found;
  moved : (s : System) → Moves s l.initial.found l.found (OneOf (Joins l.system l.call) (take l.target-index l.targets));
}
