use Rattle.checked_facts.specs.Checks.{FitsHere}
use Rattle.checked_facts.proofs.Ranges.{all_next}
use Rattle.checked_facts.proofs.fit.are_fit.Goals as goal

pub loop-e-preserved : goal.loop-e-preserved
loop-e-preserved c =
    all_next (FitsHere c.args.inputs.now c.args.accesses.now) c.args.edges.now c.loop-e.e-index _ c.loop-e-test.true c.loop-e.invariant
    (c.is_fit.ensures c.if-not-is_fit.false)
