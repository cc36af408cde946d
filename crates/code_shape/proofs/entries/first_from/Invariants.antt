use Rattle.std.proofs.Common.{◌≡◌, ◌<◌, ◌≤◌, ◌-◌, ℕ, length}
use Rattle.class_form.specs.declared.body.Instr.{Instr}
use Rattle.code_shape.specs.Codes.{IsAt}
use Rattle.code_shape.proofs.entries.first_from.Given as goal

abbrev pub invariant-loop-low : goal.invariant-loop-low
invariant-loop-low l = record {
  low : l.low ≤ l.high;
  high : l.high ≤ length l.instrs;
  before : (k : ℕ) (i : Instr) → k < l.low → IsAt l.instrs k i → i.pc < l.pc;
  after : (k : ℕ) (i : Instr) → l.high ≤ k → IsAt l.instrs k i → l.pc ≤ i.pc;
}

abbrev pub decreases-loop-low : goal.decreases-loop-low
decreases-loop-low l = l.high - l.low
