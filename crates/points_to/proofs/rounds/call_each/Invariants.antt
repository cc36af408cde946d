use Rattle.std.proofs.Common.{slice_get}
use Rattle.points_to.specs.Items.{Below, IfSome}
use Rattle.points_to.specs.Rules.{call, CallDoes}
use Rattle.points_to.specs.States.{Moves, IsShape}
use Rattle.points_to.proofs.rounds.call_each.Given as goal

abbrev pub invariant-loop-number : goal.invariant-loop-number
invariant-loop-number l = record {
  shape : IsShape l.found;
  moved : Moves l.system l.initial.found l.found (Below (λ i. IfSome (CallDoes l.system (call i)) (slice_get l.system.calls i)) l.number);
}
