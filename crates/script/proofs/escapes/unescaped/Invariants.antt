use Rattle.std.proofs.Common.{length}
use Rattle.script.proofs.Standing.{IsReadAs}
use Rattle.script.proofs.escapes.unescaped.Given as goal

abbrev pub invariant-loop-b : goal.invariant-loop-b
invariant-loop-b l = IsReadAs l.word l.bytes.items l.rest

abbrev pub decreases-loop-b : goal.decreases-loop-b
decreases-loop-b l = length l.rest
