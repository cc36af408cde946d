use Rattle.std.proofs.Common.{slice_get, length, subst, ap, arith, ◌≡◌}
use Rattle.points_to.specs.Items.{Below, IfSome}
use Rattle.points_to.specs.Rules.{call, CallDoes}
use Rattle.points_to.specs.States.{Moves}
use Rattle.points_to.proofs.Moving.{Moves-below, Moves-begin}
use Rattle.points_to.proofs.rounds.call_each.Goals as goal

pub loop-number-init : goal.loop-number-init
loop-number-init c = record { shape = c.requires.shape; moved = Moves-begin c.args.system.now c.args.found.now (λ i. IfSome (CallDoes c.args.system.now (call i)) (slice_get c.args.system.now.calls i)) }

pub loop-number-preserved : goal.loop-number-preserved
loop-number-preserved c = record {
  shape = c.in_ok-call_at.ensures.shape;
  moved = Moves-below c.args.system.now (λ i. IfSome (CallDoes c.args.system.now (call i)) (slice_get c.args.system.now.calls i)) c.loop-number.number c.args.found.now c.loop-number.found c.call_at.new.found c.loop-number.invariant.moved c.in_ok-call_at.ensures.moved;
}

pub returns-clause-moved : goal.returns-clause-moved
returns-clause-moved c = let q = ap (λ xs. length xs) c.items-count.ensures in
    let e : c.loop-number.number ≡ length c.args.system.now.calls = omega (arith, c.loop-number.auto.number-end, c.loop-number-test.false, q) in
    subst (λ n. Moves c.args.system.now c.args.found.now c.loop-number.found (Below (λ i. IfSome (CallDoes c.args.system.now (call i)) (slice_get c.args.system.now.calls i)) n)) e c.loop-number.invariant.moved
