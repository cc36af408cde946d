use Rattle.std.proofs.Common.{length}
use Rattle.script.proofs.Digits.{IsReadUpTo}
use Rattle.script.proofs.numbers.number.Given as goal

abbrev pub invariant-loop-b : goal.invariant-loop-b
invariant-loop-b l = IsReadUpTo l.word l.rest l.count l.value

abbrev pub decreases-loop-b : goal.decreases-loop-b
decreases-loop-b l = length l.rest
