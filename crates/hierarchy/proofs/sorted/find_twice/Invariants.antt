use Rattle.hierarchy.proofs.Twice.{IsStrictBelow}
use Rattle.hierarchy.proofs.sorted.find_twice.Given as goal

abbrev pub invariant-loop-i : goal.invariant-loop-i
invariant-loop-i l = IsStrictBelow l.classes l.i
