-- Lists of numbers, each once, with marks.
use Rattle.std.specs.Prelude.{◌≡◌, ◌<◌, ◌+◌, ℕ, Bool, true, false, not, List, length, All, Contains, slice_index_or, count_by}

abbrev pub is_marked : List Bool → ℕ → Bool
is_marked marks n = slice_index_or marks n false

-- the list has each marked number once
pub record IsWorklist (marks : List Bool) (items : List ℕ) : Type 0 where
  pub below : All (λ n. n < length marks) items
  pub marked : (n : ℕ) → is_marked marks n ≡ true → Contains items n
  pub listed : All (λ n. is_marked marks n ≡ true) items
  pub room : count_by not marks + length items ≡ length marks
