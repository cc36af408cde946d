use Rattle.std.proofs.Common.{◌≡◌, ◌-◌, ℕ, length, Contains}
use Rattle.worklist.specs.Worklists.{IsWorklist}
use Rattle.reaching_defs.specs.Frames.{Steps}
use Rattle.worklists.proofs.ClosingOne.{Closing}
use Rattle.reaching_defs.specs.Frames.{IsBegun}
use Rattle.reaching_defs.proofs.Spreading.{Good}
use Rattle.reaching_defs.proofs.spread.spread.Given as goal

abbrev pub invariant-loop-next : goal.invariant-loop-next
invariant-loop-next l = record {
  size : length l.found.marks.items ≡ length l.initial.found.marks.items;
  set : IsWorklist l.found.marks.items l.found.items.items;
  begun : (n : ℕ) → IsBegun l.frame l.slot l.fn.def n → Contains l.found.items.items n;
  closing : Closing (Good l.frame l.slot l.fn.def) (Steps l.frame) l.next l.found.items.items;
}

abbrev pub decreases-loop-next : goal.decreases-loop-next
decreases-loop-next l = length l.found.marks.items - l.next
