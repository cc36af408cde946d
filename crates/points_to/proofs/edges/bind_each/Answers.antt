use Rattle.std.proofs.Common.{slice_get, length, subst, ap, arith, ◌≡◌}
use Rattle.dep_form.specs.Outside.{IsReceiver}
use Rattle.points_to.specs.Items.{Where, Below}
use Rattle.points_to.specs.Rules.{FlowsSome}
use Rattle.points_to.specs.States.{Moves}
use Rattle.points_to.proofs.Moving.{Moves-below, Moves-begin}
use Rattle.points_to.proofs.edges.bind_each.Goals as goal

pub loop-index-init : goal.loop-index-init
loop-index-init c = record { shape = c.requires; moved = λ s. Moves-begin s c.args.found.now (λ i. Where (IsReceiver c.args.call.now.instance i → ⊥) (FlowsSome (slice_get c.args.call.now.arguments i) (slice_get c.args.method.now.formals i))) }

pub loop-index-preserved : goal.loop-index-preserved
loop-index-preserved c = record {
  shape = c.in_ok-bind_one.ensures.shape;
  moved = λ s. Moves-below s (λ i. Where (IsReceiver c.args.call.now.instance i → ⊥) (FlowsSome (slice_get c.args.call.now.arguments i) (slice_get c.args.method.now.formals i))) c.loop-index.index c.args.found.now c.loop-index.found c.bind_one.new.found (c.loop-index.invariant.moved s) (c.in_ok-bind_one.ensures.moved s);
}

pub returns-clause-moved : goal.returns-clause-moved
returns-clause-moved c = let q = ap (λ xs. length xs) c.items-count.ensures in
    let e : c.loop-index.index ≡ length c.args.call.now.arguments = omega (arith, c.loop-index.auto.index-end, c.loop-index-test.false, q) in
    λ s. subst (λ n. Moves s c.args.found.now c.loop-index.found (Below (λ i. Where (IsReceiver c.args.call.now.instance i → ⊥) (FlowsSome (slice_get c.args.call.now.arguments i) (slice_get c.args.method.now.formals i))) n)) e (c.loop-index.invariant.moved s)
