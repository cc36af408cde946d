use Rattle.std.proofs.Common.{◌++◌, ℕ, List, length}
use Rattle.slicer_ids.specs.declared.ids.ClassId.{ClassId}
use Rattle.slicer_ids.specs.declared.ids.Statement.{Statement}
use Rattle.text_tables.specs.LineGroups.{AreRuns}
use Rattle.text_tables.proofs.lines.groups_of.Given as goal

abbrev pub invariant-loop-rest : goal.invariant-loop-rest
invariant-loop-rest l = (more : List (ClassId × ℕ × List Statement)) → AreRuns l.rest more → AreRuns l.fn.places (l.groups.items ++ more)

abbrev pub decreases-loop-rest : goal.decreases-loop-rest
decreases-loop-rest l = length l.rest
