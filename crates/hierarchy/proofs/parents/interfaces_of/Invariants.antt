use Rattle.std.proofs.Common.{take}
use Rattle.hierarchy.specs.Names.{Leading}
use Rattle.hierarchy.proofs.parents.interfaces_of.Given as goal

abbrev pub invariant-loop-index : goal.invariant-loop-index
invariant-loop-index l = Leading l.classes l.class (take l.index-index l.interfaces) l.row.items
