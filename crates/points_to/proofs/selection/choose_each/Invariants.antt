use Rattle.std.proofs.Common.{take}
use Rattle.points_to.specs.Items.{OneOf}
use Rattle.points_to.specs.Rules.{Chooses}
use Rattle.points_to.specs.States.{Moves, IsShape}
use Rattle.points_to.proofs.selection.choose_each.Given as goal

abbrev pub invariant-loop-object : goal.invariant-loop-object
invariant-loop-object l = record {
  shape : IsShape l.found;
  moved : Moves l.system l.initial.found l.found (OneOf (Chooses l.system l.c l.signature) (take l.object-index l.sites));
}
