use Rattle.std.proofs.Common.{ℕ, List, Contains, subst, ◌∙◌}
use Rattle.worklists.specs.Growth.{Grows}
use Rattle.worklists.proofs.Growing.{Grows-each}
use Rattle.reaching_defs.specs.Starts.{HasHandler}
use Rattle.reaching_defs.proofs.starts.find_all_handlers.Goals as goal

pub loop-point-preserved : goal.loop-point-preserved
loop-point-preserved c = record {
  size = c.find_handlers.ensures.size ∙ c.loop-point.invariant.size;
  set = c.in_ok-find_handlers.ensures.set;
  grown = Grows-each HasHandler c.args.points.now c.loop-point.point-index c.point-item.result c.args.found.now.items.items c.loop-point.found.items.items c.find_handlers.new.found.items.items c.loop-point-test.true c.point-item.is c.loop-point.invariant.grown
      (subst (λ (xs : List ℕ). Grows c.loop-point.found.items.items c.find_handlers.new.found.items.items (Contains xs)) c.items.ensures c.in_ok-find_handlers.ensures.grown);
}
