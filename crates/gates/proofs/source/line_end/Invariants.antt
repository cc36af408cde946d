use Rattle.std.proofs.Common.{length, ◌-◌, ◌≢◌, ◌≤◌, ◌<◌, ℕ, List, slice_index}
use Rattle.gates.proofs.source.line_end.Given as goal

-- no newline before this place
pub record Before (bytes : List ℕ) (at : ℕ) : Type 0 where
  pub within : at ≤ length bytes
  pub none : (k : ℕ) → k < at → slice_index bytes k ≢ 10

abbrev pub invariant-loop-at : goal.invariant-loop-at
invariant-loop-at l = Before l.bytes l.at

abbrev pub decreases-loop-at : goal.decreases-loop-at
decreases-loop-at l = length l.bytes - l.at
