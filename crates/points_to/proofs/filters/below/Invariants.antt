use Rattle.std.proofs.Common.{take}
use Rattle.points_to.specs.Indexes.{AreBelow}
use Rattle.points_to.proofs.filters.below.Given as goal

abbrev pub invariant-loop-pair : goal.invariant-loop-pair
invariant-loop-pair l = AreBelow (take l.pair-index l.subclasses) l.rows.items
