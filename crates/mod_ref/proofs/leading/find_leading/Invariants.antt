use Rattle.std.proofs.Common.{◌≡◌, ◌-◌, length, Contains}
use Rattle.slicer_ids.specs.declared.ids.MethodId.{MethodId}
use Rattle.worklist.specs.Worklists.{IsWorklist}
use Rattle.worklists.proofs.ClosingOne.{Closing}
use Rattle.mod_ref.proofs.Backwards.{Good, ToCaller}
use Rattle.mod_ref.proofs.leading.find_leading.Given as goal

abbrev pub invariant-loop-next : goal.invariant-loop-next
invariant-loop-next l = record {
  size : length l.found.marks.items ≡ length l.initial.found.marks.items;
  set : IsWorklist l.found.marks.items l.found.items.items;
  start : (t : MethodId) → Contains l.targets t → Contains l.found.items.items t.0;
  closing : Closing (Good l.callers l.targets) (ToCaller l.callers) l.next l.found.items.items;
}

abbrev pub decreases-loop-next : goal.decreases-loop-next
decreases-loop-next l = length l.found.marks.items - l.next
