use Rattle.std.proofs.Common.{slice_get, length}
use Rattle.dep_form.specs.Outside.{IsReceiver}
use Rattle.points_to.specs.declared.place.Place.TheVariants.{Variable}
use Rattle.points_to.specs.Items.{Flows, Or, Where, Below}
use Rattle.points_to.specs.Rules.{FlowsSome}
use Rattle.points_to.proofs.Moving.{Moves-then}
use Rattle.points_to.proofs.edges.bind.Goals as goal

pub returns-clause-moved : goal.returns-clause-moved
returns-clause-moved c = λ s. Moves-then s c.args.found.now c.bind_each.new.found c.flow.new.found (Below (λ i. Where (IsReceiver c.args.call.now.instance i → ⊥) (FlowsSome (slice_get c.args.call.now.arguments i) (slice_get c.args.method.now.formals i))) (length c.args.call.now.arguments)) (Or (FlowsSome c.args.method.now.result c.args.call.now.result) (Flows (Variable c.args.method.now.thrown) (Variable c.args.call.now.exception))) (c.in_ok-bind_each.ensures.moved s) (Moves-then s c.bind_each.new.found c.flow_some.new.found c.flow.new.found (FlowsSome c.args.method.now.result c.args.call.now.result) (Flows (Variable c.args.method.now.thrown) (Variable c.args.call.now.exception)) (c.in_ok-flow_some.ensures.moved s) (c.in_ok-flow.ensures.moved s))
