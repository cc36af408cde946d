-- Tables of pairs.
use Rattle.std.specs.Prelude.{◌≡◌, ◌≢◌, ℕ, ◌+◌, ◌*◌, ◌<◌, Bool, true, false, not, List, length, All, AllPairs, Contains, slice_index_or, count_by}
use Rattle.plain_slice.specs.declared.table.Pair.{Pair}

abbrev pub place_of : ℕ → Pair → ℕ
place_of size p = p.node * size + p.place

abbrev pub is_in : ℕ → List Bool → Pair → Bool
is_in size marks p = slice_index_or marks (place_of size p) false

abbrev pub IsBelow : ℕ → Pair → Type 0
IsBelow size p = (p.node < size) × (p.place < size)

-- the list has each marked pair once
pub record IsTable (size : ℕ) (marks : List Bool) (pairs : List Pair) : Type 0 where
  pub len : length marks ≡ size * size
  pub below : All (IsBelow size) pairs
  pub marked : (p : Pair) → IsBelow size p → is_in size marks p ≡ true → Contains pairs p
  pub listed : All (λ p. is_in size marks p ≡ true) pairs
  pub once : AllPairs (λ p q. p ≢ q) pairs
  pub room : count_by not marks + length pairs ≡ size * size

abbrev pub pair : ℕ → ℕ → Pair
pair n x = record { node = n; place = x }
