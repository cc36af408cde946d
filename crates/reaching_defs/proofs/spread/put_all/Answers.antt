use Rattle.worklists.proofs.Growing.{Grows-more}
use Rattle.reaching_defs.specs.Facts.{IsFactAt}
use Rattle.reaching_defs.proofs.spread.put_all.Goals as goal

pub loop-number-preserved : goal.loop-number-preserved
loop-number-preserved c = Grows-more (IsFactAt c.args.frame.now c.args.def) c.args.numbers.now c.loop-number.number-index 0 c.args.facts.now.items c.loop-number.facts.items c.put_one.new.facts.items c.loop-number-test.true c.loop-number.invariant c.in_ok-put_one.ensures
