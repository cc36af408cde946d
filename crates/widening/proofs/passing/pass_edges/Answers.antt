use Rattle.worklists.proofs.Growing.{Grows-more}
use Rattle.widening.specs.Marks.{OverEdge}
use Rattle.widening.proofs.passing.pass_edges.Goals as goal

pub loop-edge-preserved : goal.loop-edge-preserved
loop-edge-preserved c = Grows-more (OverEdge c.args.f.now c.args.found.now.items) c.args.edges.now c.loop-edge.edge-index _ c.args.into.now.items c.loop-edge.into.items c.pass_edge.new.into.items c.loop-edge-test.true c.loop-edge.invariant c.in_ok-pass_edge.ensures
