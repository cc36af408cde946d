use Rattle.worklists.proofs.Growing.{Grows-more}
use Rattle.plain_slice.specs.Rules.{JoinsBack}
use Rattle.plain_slice.proofs.levels.join.Goals as goal

pub loop-back-preserved : goal.loop-back-preserved
loop-back-preserved c = record {
  table = c.in_ok-join_back.ensures.table;
  grown = Grows-more (JoinsBack c.args.edges.now c.args.outer c.args.inner) c.args.edges.now c.loop-back.back-index _ c.args.pairs.now.items c.loop-back.pairs.items c.join_back.new.pairs.items c.loop-back-test.true c.loop-back.invariant.grown c.in_ok-join_back.ensures.grown;
}
