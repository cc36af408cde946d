use Rattle.std.proofs.Common.{[], ◌∙◌}
use Rattle.worklists.proofs.Growing.{Grows-more}
use Rattle.reaching_defs.specs.Facts.{IsFactOf}
use Rattle.reaching_defs.proofs.definitions.facts_of.Goals as goal

pub loop-start-preserved : goal.loop-start-preserved
loop-start-preserved c = record {
  size = c.put_facts.ensures.size ∙ c.loop-start.invariant.size;
  set = c.in_ok-put_facts.ensures.set;
  none = c.in_ok-put_facts.ensures.none;
  grown = Grows-more (IsFactOf c.args.method.now.shape.now) c.args.starts.now c.loop-start.start-index _ [] c.loop-start.facts.items c.put_facts.new.facts.items c.loop-start-test.true c.loop-start.invariant.grown c.in_ok-put_facts.ensures.grown;
}
