use Rattle.worklists.proofs.Growing.{Grows-more}
use Rattle.plain_slice.specs.Rules.{JoinsOne}
use Rattle.plain_slice.proofs.levels.join_back.Goals as goal

pub loop-into-preserved : goal.loop-into-preserved
loop-into-preserved c = record {
  table = c.in_ok-join_one.ensures.table;
  grown = Grows-more (JoinsOne c.args.outer c.args.inner c.args.back) c.args.edges.now c.loop-into.into-index _ c.args.pairs.now.items c.loop-into.pairs.items c.join_one.new.pairs.items c.loop-into-test.true c.loop-into.invariant.grown c.in_ok-join_one.ensures.grown;
}
