use Rattle.call_graph.specs.ByNumber.{HasNativeFlag}
use Rattle.call_graph.proofs.Early.{none_at_all, none_more}
use Rattle.call_graph.proofs.refusals.has_native.Goals as goal

pub loop-target-preserved : goal.loop-target-preserved
loop-target-preserved c = none_more (HasNativeFlag c.args.system.now) c.args.targets.now c.loop-target.target-index c.is_native.result (record { 0 = 0 }) c.loop-target-test.true c.if-is_native.false c.is_native.ensures c.loop-target.invariant

pub returns : goal.returns
returns c = (λ e. absurd (cc e), λ h. absurd (none_at_all (HasNativeFlag c.args.system.now) c.args.targets.now c.loop-target.target-index c.loop-target-test.false c.loop-target.invariant h))
