use Rattle.std.proofs.Common.{arith}
use Rattle.script.proofs.Digits.{up_to_more, small_value, no_number_past, number_of_value}
use Rattle.script.proofs.numbers.number.Goals as goal
use Rattle.script.proofs.numbers.number.Goals.{then-count-eq5-via-then-count-eq5, then-count-eq5-via-else-count-eq5+then-b-lt48, then-count-eq5-via-else-count-eq5+else-b-lt48+then-b-gt57}

pub returns-then-count-eq5 : goal.returns-then-count-eq5
returns-then-count-eq5 c = no_number_past _ _ c.loop-b.invariant c.in-Some.ensures (λ h. elim c.then-count-eq5.branch [
  | then-count-eq5-via-then-count-eq5 w ↦ omega (arith, h.0)
  | then-count-eq5-via-else-count-eq5+then-b-lt48 w ↦ omega (arith, h.1)
  | then-count-eq5-via-else-count-eq5+else-b-lt48+then-b-gt57 w ↦ omega (arith, h.1)
])

pub overflow_mul-value : goal.overflow_mul-value
overflow_mul-value c = omega (arith, small_value c.loop-b.invariant)

pub overflow_add-value : goal.overflow_add-value
overflow_add-value c = omega (arith, small_value c.loop-b.invariant)

pub loop-b-preserved : goal.loop-b-preserved
loop-b-preserved c = up_to_more _ _ c.loop-b.invariant c.in-Some.ensures (omega arith) (omega arith) (omega arith)

pub returns : goal.returns
returns c = number_of_value c.loop-b.invariant c.in_default.ensures c.if-count-eq0.false c.if-value-gt65535.false
