use Rattle.std.proofs.Common.{◌≡◌, ◌<◌, ℕ, false, slice_index}
use Rattle.std.specs.Prelude.{bit_or}
use Rattle.points_to.proofs.row.adds_some.Given as goal

abbrev pub invariant-loop-k : goal.invariant-loop-k
invariant-loop-k l = l.some ≡ false → (i : ℕ) → i < l.k → slice_index l.to i ≡ bit_or (slice_index l.to i) (slice_index l.from i)
