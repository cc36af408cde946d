use Rattle.worklists.proofs.Growing.{Grows-more}
use Rattle.plain_slice.specs.Rules.{MovesOne}
use Rattle.plain_slice.proofs.slices.moves.Goals as goal

pub loop-edge-preserved : goal.loop-edge-preserved
loop-edge-preserved c = record {
  table = c.in_ok-move_one.ensures.table;
  grown = Grows-more (MovesOne c.args.from) c.args.edges.now c.loop-edge.edge-index _ c.args.pairs.now.items c.loop-edge.pairs.items c.move_one.new.pairs.items c.loop-edge-test.true c.loop-edge.invariant.grown c.in_ok-move_one.ensures.grown;
}
