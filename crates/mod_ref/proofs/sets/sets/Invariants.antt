use Rattle.std.proofs.Common.{◌≡◌, [], length}
use Rattle.worklist.specs.Worklists.{IsWorklist}
use Rattle.mod_ref.specs.Rows.{AreSetsBelow}
use Rattle.mod_ref.proofs.sets.sets.Given as goal

abbrev pub invariant-loop-number : goal.invariant-loop-number
invariant-loop-number l = record {
  size : length l.found.marks.items ≡ length l.callers;
  set : IsWorklist l.found.marks.items l.found.items.items;
  none : l.found.items.items ≡ [];
  sets : AreSetsBelow l.callers l.sources l.lists.items l.number;
}
