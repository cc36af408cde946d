use Rattle.worklists.proofs.Growing.{Grows-more}
use Rattle.plain_slice.specs.Rules.{JumpsOne}
use Rattle.plain_slice.proofs.slices.jumps.Goals as goal

pub loop-level-preserved : goal.loop-level-preserved
loop-level-preserved c = record {
  table = c.in_ok-jump_one.ensures.table;
  grown = Grows-more (JumpsOne c.args.from) c.args.levels.now c.loop-level.level-index _ c.args.pairs.now.items c.loop-level.pairs.items c.jump_one.new.pairs.items c.loop-level-test.true c.loop-level.invariant.grown c.in_ok-jump_one.ensures.grown;
}
