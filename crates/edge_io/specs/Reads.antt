-- What a source gives.
use Rattle.std.specs.Prelude.{◌≡◌, ℕ, ◌≤◌, List, [], length, take, ◌++◌, Option, Some, None, ◌↔◌}

-- n bytes of what was left were put into the front of a buffer, and none only where none was left
pub record Reads (n : ℕ) (buffer left : List ℕ) : Type 0 where
  pub enough : n ≤ length left
  pub front : take n buffer ≡ take n left
  pub end : (n ≡ 0) ↔ (left ≡ [])

-- a text after what was there, where that is told
abbrev pub appended : List ℕ → Option (List ℕ) → Option (List ℕ)
appended text None = None
appended text (Some before) = Some (before ++ text)
