use Rattle.checked_facts.specs.Checks.{EndsFit}
use Rattle.checked_facts.proofs.Ranges.{all_next}
use Rattle.checked_facts.proofs.calls.are_of_one_caller.Goals as goal

pub loop-e-preserved : goal.loop-e-preserved
loop-e-preserved c =
    all_next (EndsFit c.args.inputs.now c.args.edges.now) c.args.edges.now c.loop-e.e-index _ c.loop-e-test.true c.loop-e.invariant
    (c.fits_all.ensures c.if-not-fits_all.false)
