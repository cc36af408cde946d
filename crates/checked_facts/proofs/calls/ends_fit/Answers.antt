use Rattle.checked_facts.specs.Checks.{EndFits}
use Rattle.checked_facts.proofs.Ranges.{all_next}
use Rattle.checked_facts.proofs.calls.ends_fit.Goals as goal

pub loop-e-preserved : goal.loop-e-preserved
loop-e-preserved c =
    all_next (EndFits c.args.inputs.now c.args.c c.args.a) c.args.edges.now c.loop-e.e-index _ c.loop-e-test.true c.loop-e.invariant
    (c.end_fits.ensures c.if-not-end_fits.false)
