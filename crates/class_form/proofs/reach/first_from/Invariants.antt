use Rattle.std.proofs.Common.{◌≡◌, ◌<◌, ◌≤◌, ◌-◌, ℕ, length, Some}
use Rattle.std.specs.Prelude.{slice_get}
use Rattle.class_form.proofs.reach.first_from.Given as goal

abbrev pub invariant-loop-low : goal.invariant-loop-low
invariant-loop-low l = record {
  low : l.low ≤ l.high;
  high : l.high ≤ length l.places;
  before : (k : ℕ) (x : ℕ × ℕ) → k < l.low → slice_get l.places k ≡ Some x → (x.0 ≤ l.pc) × (x.0 ≡ l.pc → x.1 < l.slot);
  after : (k : ℕ) (x : ℕ × ℕ) → l.high ≤ k → slice_get l.places k ≡ Some x → (l.pc ≤ x.0) × (x.0 ≡ l.pc → l.slot ≤ x.1);
}

abbrev pub decreases-loop-low : goal.decreases-loop-low
decreases-loop-low l = l.high - l.low
