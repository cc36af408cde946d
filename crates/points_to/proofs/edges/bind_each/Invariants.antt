use Rattle.std.proofs.Common.{slice_get}
use Rattle.dep_form.specs.declared.system.System.{System}
use Rattle.dep_form.specs.Outside.{IsReceiver}
use Rattle.points_to.specs.Items.{Where, Below}
use Rattle.points_to.specs.Rules.{FlowsSome}
use Rattle.points_to.specs.States.{Moves, IsShape}
use Rattle.points_to.proofs.edges.bind_each.Given as goal

abbrev pub invariant-loop-index : goal.invariant-loop-index
invariant-loop-index l = record {
  shape : IsShape l.found;
  moved : (s : System) → Moves s l.initial.found l.found (Below (λ i. Where (IsReceiver l.call.instance i → ⊥) (FlowsSome (slice_get l.call.arguments i) (slice_get l.method.formals i))) l.index);
}
