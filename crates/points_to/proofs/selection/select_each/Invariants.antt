use Rattle.std.proofs.Common.{take}
use Rattle.dep_form.specs.declared.system.System.{System}
use Rattle.points_to.specs.declared.groups.Select.{Select}
use Rattle.points_to.specs.Items.{OneOf, IfSome}
use Rattle.points_to.specs.Rules.{Selects}
use Rattle.points_to.specs.States.{Moves, IsShape}
use Rattle.points_to.proofs.selection.select_each.Given as goal

abbrev pub invariant-loop-one : goal.invariant-loop-one
invariant-loop-one l = record {
  shape : IsShape l.found;
  moved : (s : System) → Moves s l.initial.found l.found (OneOf (λ (x : Select). IfSome (Selects l.system l.c l.object) x.target) (take l.one-index l.chosen));
}
