use Rattle.hierarchy.proofs.Rows.{AreEdgesUpTo}
use Rattle.hierarchy.proofs.parents.edges.Given as goal

abbrev pub invariant-loop-class : goal.invariant-loop-class
invariant-loop-class l = AreEdgesUpTo l.fn.above l.classes l.rows.items l.class-index
