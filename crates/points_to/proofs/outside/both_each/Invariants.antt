use Rattle.std.proofs.Common.{take}
use Rattle.dep_form.specs.declared.system.System.{System}
use Rattle.points_to.specs.Items.{Those, OneOf}
use Rattle.points_to.specs.Rules.{Both, IsArgumentPlace}
use Rattle.points_to.specs.States.{Moves, IsShape}
use Rattle.points_to.proofs.outside.both_each.Given as goal

abbrev pub invariant-loop-argument : goal.invariant-loop-argument
invariant-loop-argument l = record {
  shape : IsShape l.found;
  moved : (s : System) → Moves s l.initial.found l.found (OneOf (λ i. Those (IsArgumentPlace l.c l.call i) (Both l.system l.to)) (take l.argument-index l.arguments));
}
