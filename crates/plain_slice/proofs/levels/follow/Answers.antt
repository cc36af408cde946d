use Rattle.worklists.proofs.Growing.{Grows-more}
use Rattle.plain_slice.specs.Rules.{FollowsOne}
use Rattle.plain_slice.proofs.levels.follow.Goals as goal

pub loop-edge-preserved : goal.loop-edge-preserved
loop-edge-preserved c = record {
  table = c.in_ok-follow_one.ensures.table;
  grown = Grows-more (FollowsOne c.args.from) c.args.edges.now c.loop-edge.edge-index _ c.args.pairs.now.items c.loop-edge.pairs.items c.follow_one.new.pairs.items c.loop-edge-test.true c.loop-edge.invariant.grown c.in_ok-follow_one.ensures.grown;
}
