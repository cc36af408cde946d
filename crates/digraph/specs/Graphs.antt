-- A directed graph by its rows: row a has the nodes to which an edge leads from a.
use Rattle.std.specs.Prelude.{◌≡◌, ℕ, ◌<◌, Bool, true, false, List, [], length, Contains, All, slice_get, slice_index_or}
use Rattle.std.specs.Option.{option_map_or}
use Rattle.std.specs.Global.{Vec}

abbrev pub targets : List (Vec ℕ) → ℕ → List ℕ
targets g a = option_map_or (λ row. row.items) (slice_get g a) []

abbrev pub HasEdge : List (Vec ℕ) → ℕ → ℕ → Type 0
HasEdge g a b = Contains (targets g a) b

-- each edge leads to a node
abbrev pub IsGraph : List (Vec ℕ) → Type 0
IsGraph g = All (λ row. All (λ b. b < length g) row.items) g

abbrev pub is_marked : List Bool → ℕ → Bool
is_marked marks n = slice_index_or marks n false

abbrev pub IsMarked : List Bool → ℕ → Type 0
IsMarked marks n = is_marked marks n ≡ true
