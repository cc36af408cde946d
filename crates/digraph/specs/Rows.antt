-- What is reached from each node, as rows of bits.
use Rattle.std.specs.Prelude.{◌≡◌, ◌/◌, ◌%◌, ◌<◌, ◌↔◌, ℕ, List, length, Contains, slice_index, slice_index_or, slice_get, Some}
use Rattle.std.specs.Int.{bit_at}
use Rattle.std.specs.Global.{Vec}
use Rattle.slicer_ids.specs.Walks.{LeadsBy}
use Rattle.digraph.specs.Graphs.{HasEdge}

-- bit b of a row: word b / 64, in it the bit of value 2 to the power of b % 64
abbrev pub HasBit : List ℕ → ℕ → Type 0
HasBit row b = bit_at (slice_index row (b / 64)) (b % 64) ≡ 1

-- the row has a bit for each node to which edges lead from a, and for a itself
abbrev pub IsRowOf : List (Vec ℕ) → List ℕ → ℕ → Type 0
IsRowOf g row a = (b : ℕ) → b < length g → HasBit row b ↔ LeadsBy (HasEdge g) a b

-- a row for each node
pub record AreRows (g rows : List (Vec ℕ)) : Type 0 where
  pub len : length rows ≡ length g
  pub each : (a : ℕ) (row : Vec ℕ) → slice_get rows a ≡ Some row → IsRowOf g row.items a

-- these nodes have their rows already, each of as many words
pub record HaveRows (g rows : List (Vec ℕ)) (words : ℕ) (nodes : List ℕ) : Type 0 where
  pub node : (n : ℕ) → Contains nodes n → n < length rows
  pub size : (n : ℕ) (d : Vec ℕ) → Contains nodes n → length (slice_index_or rows n d).items ≡ words
  pub row : (n : ℕ) (d : Vec ℕ) → Contains nodes n → IsRowOf g (slice_index_or rows n d).items n
