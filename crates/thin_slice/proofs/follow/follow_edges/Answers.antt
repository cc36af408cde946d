use Rattle.worklists.proofs.Growing.{Grows-more}
use Rattle.thin_slice.specs.Marks.{found}
use Rattle.thin_slice.specs.Steps.{FollowsOne}
use Rattle.thin_slice.proofs.follow.follow_edges.Goals as goal

pub loop-edge-preserved : goal.loop-edge-preserved
loop-edge-preserved c = record {
  nodes = c.follow_one.ensures.nodes;
  grown = Grows-more (FollowsOne c.args.mode c.args.phase) c.args.edges.now c.loop-edge.edge-index _ (found c.args.nodes.now) (found c.loop-edge.nodes) (found c.follow_one.new.nodes) c.loop-edge-test.true c.loop-edge.invariant.grown c.follow_one.ensures.grown;
}
