use Rattle.std.proofs.Common.{◌≡◌, ◌<◌, ◌≤◌, ◌-◌, ◌+◌, ℕ, take, length, get_or, [], Contains, ◌⊎◌, Some}
use Rattle.std.specs.Prelude.{slice_get}
use Rattle.code_shape.specs.declared.covers.Cover.{Cover}
use Rattle.code_shape.proofs.covers.first_cover.Given as goal

abbrev pub invariant-loop-low : goal.invariant-loop-low
invariant-loop-low l = record {
  low : l.low ≤ l.high;
  high : l.high ≤ length l.covers;
  before : (k : ℕ) (c : Cover) → k < l.low → slice_get l.covers k ≡ Some c → c.index < l.index;
  after : (k : ℕ) (c : Cover) → l.high ≤ k → slice_get l.covers k ≡ Some c → l.index ≤ c.index;
}

abbrev pub decreases-loop-low : goal.decreases-loop-low
decreases-loop-low l = l.high - l.low
