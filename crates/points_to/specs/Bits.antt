-- Sets of numbers as rows of bits: bit b of word k is that of the number 64 * k + b.
use Rattle.std.specs.Prelude.{◌≡◌, ◌≢◌, ◌⊎◌, ◌↔◌, ◌<◌, ◌≤◌, ◌^◌, ℕ, ◌/◌, ◌%◌, Bool, false, List, [], length, slice_get, slice_index}
use Rattle.std.specs.Global.{Vec}
use Rattle.std.specs.Option.{option_map_or}
use Rattle.std.specs.Int.{bit_at}
use Rattle.slicer_ids.specs.Sets.{IsOrderedListOf}

-- words past the end of a row are empty
abbrev pub IsMember : List ℕ → ℕ → Type 0
IsMember words number = bit_at (slice_index words (number / 64)) (number % 64) ≡ 1

-- the new row has what the old one had, and what P holds of
abbrev pub AddsTo : List ℕ → List ℕ → (ℕ → Type 0) → Type 0
AddsTo old new P = (k : ℕ) → IsMember new k ↔ IsMember old k ⊎ P k

-- the list has the members of the row below n, in order
abbrev pub ListsBelow : List ℕ → ℕ → List ℕ → Type 0
ListsBelow row n list = IsOrderedListOf (λ a b. a < b) list (λ k. (k < n) × IsMember row k)

-- a row of a table; there is none past its end
abbrev pub row_of : List (Vec ℕ) → ℕ → List ℕ
row_of rows r = option_map_or (λ row. row.items) (slice_get rows r) []

-- numbers of 32 bits
abbrev pub AreShort : List (Vec ℕ) → Type 0
AreShort rows = (r : ℕ) → length (row_of rows r) ≤ 2 ^ 26

-- the row got what P holds of, and all others are as they were
pub record RowsAdd (old new : List (Vec ℕ)) (to : ℕ) (P : ℕ → Type 0) (changed : Bool) : Type 0 where
  pub len : length new ≡ length old
  pub other : (r : ℕ) → r ≢ to → row_of new r ≡ row_of old r
  pub adds : AddsTo (row_of old to) (row_of new to) P
  pub quiet : changed ≡ false → (k : ℕ) → IsMember (row_of new to) k → IsMember (row_of old to) k
  pub short : AreShort old → AreShort new

-- a row got some of another row's members, and all others are as they were
pub record RowsTake (old new : List (Vec ℕ)) (from to : ℕ) : Type 0 where
  pub len : length new ≡ length old
  pub other : (r : ℕ) → r ≢ to → row_of new r ≡ row_of old r
  pub keeps : (k : ℕ) → IsMember (row_of old to) k → IsMember (row_of new to) k
  pub only : (k : ℕ) → IsMember (row_of new to) k → IsMember (row_of old to) k ⊎ IsMember (row_of old from) k
  pub short : AreShort old → AreShort new
