use Rattle.std.proofs.Common.{take}
use Rattle.points_to.specs.Indexes.{AreGroupsOf}
use Rattle.points_to.proofs.groups.grouped.Given as goal

abbrev pub invariant-loop-entry : goal.invariant-loop-entry
invariant-loop-entry l = AreGroupsOf (take l.entry-index l.selects) l.groups.items
