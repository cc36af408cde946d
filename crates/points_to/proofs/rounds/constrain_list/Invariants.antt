use Rattle.std.proofs.Common.{take}
use Rattle.points_to.specs.Items.{OneOf}
use Rattle.points_to.specs.Rules.{Constrains}
use Rattle.points_to.specs.States.{Moves, IsShape}
use Rattle.points_to.proofs.rounds.constrain_list.Given as goal

abbrev pub invariant-loop-constraint : goal.invariant-loop-constraint
invariant-loop-constraint l = record {
  shape : IsShape l.found;
  moved : Moves l.system l.initial.found l.found (OneOf (Constrains l.system) (take l.constraint-index l.constraints));
}
