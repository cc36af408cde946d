-- The first line of a text.
use Rattle.std.specs.Prelude.{◌≡◌, ◌≢◌, ℕ, ◌+◌, ◌-◌, ◌<◌, ◌≤◌, List, length, slice_index}

-- the first line of the bytes, with its newline, has n of them
pub record IsLineEnd (bytes : List ℕ) (n : ℕ) : Type 0 where
  pub within : n ≤ length bytes
  pub inside : (k : ℕ) → k + 1 < n → slice_index bytes k ≢ 10
  pub newline : n < length bytes → (0 < n) × (slice_index bytes (n - 1) ≡ 10)
