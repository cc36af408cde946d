-- Orders of the nodes in which each edge leads back.
use Rattle.std.specs.Prelude.{◌≡◌, ℕ, ◌<◌, List, length, Contains, All, slice_index}
use Rattle.std.specs.Global.{Vec}
use Rattle.slicer_ids.specs.Walks.{LeadsOn}
use Rattle.digraph.specs.Graphs.{HasEdge}

-- each edge of a node of the list leads to a node before it
abbrev pub LeadsBack : List (Vec ℕ) → List ℕ → Type 0
LeadsBack g order =
    (i : ℕ) (b : ℕ) → i < length order → HasEdge g (slice_index order i) b → (j : ℕ) × (j < i) × (slice_index order j ≡ b)

-- the list has each node, and each edge leads back
pub record IsOrder (g : List (Vec ℕ)) (order : List ℕ) : Type 0 where
  pub nodes : All (λ n. n < length g) order
  pub whole : (n : ℕ) → n < length g → Contains order n
  pub back : LeadsBack g order

-- edges lead from the node back to itself
abbrev pub IsOnCycle : List (Vec ℕ) → ℕ → Type 0
IsOnCycle g n = LeadsOn (HasEdge g) n n

-- .. and from no node before it back to that one
abbrev pub IsFirstOnCycle : List (Vec ℕ) → ℕ → Type 0
IsFirstOnCycle g n = (n < length g) × IsOnCycle g n × ((m : ℕ) → m < n → IsOnCycle g m → ⊥)
