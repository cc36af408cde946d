-- Searches in depth on a graph: the nodes that they visit, and the first of these.
use Rattle.std.specs.Prelude.{◌≡◌, ◌<◌, ℕ, List, [], ◌∷◌, ◌++◌, Option, Some, None, All, Any, length}
use Rattle.std.specs.Global.{Vec}
use Rattle.slicer_ids.specs.Walks.{LeadsBy}
use Rattle.slicer_ids.specs.declared.ids.ClassId.{ClassId}
use Rattle.digraph.specs.Graphs.{targets, HasEdge}

-- the nodes that a search visits, in order: a node before those to which its edges lead, one edge after the other
mutual
  pub data Visits (g : List (Vec ℕ)) : ℕ → List ℕ → Type 0 where
    visited : {n : ℕ} {xs : List ℕ} → VisitsEach g (targets g n) xs → Visits g n (n ∷ xs)

  pub data VisitsEach (g : List (Vec ℕ)) : List ℕ → List ℕ → Type 0 where
    no_node : VisitsEach g [] []
    node_first : {n : ℕ} {ns xs ys : List ℕ} → Visits g n xs → VisitsEach g ns ys → VisitsEach g (n ∷ ns) (xs ++ ys)

-- the first of a list for which P holds; none where it holds for none
pub data IsFirst (P : ℕ → Type 0) : List ℕ → Option ℕ → Type 0 where
  in_none : IsFirst P [] None
  at_head : {n : ℕ} {ns : List ℕ} → P n → IsFirst P (n ∷ ns) (Some n)
  in_tail : {n : ℕ} {ns : List ℕ} {found : Option ℕ} → (P n → ⊥) → IsFirst P ns found → IsFirst P (n ∷ ns) found

-- the first node for which P holds that a search from a node visits
abbrev pub FirstFrom : List (Vec ℕ) → (ℕ → Type 0) → ℕ → Option ℕ → Type 0
FirstFrom g P n found = (xs : List ℕ) × Visits g n xs × IsFirst P xs found

-- .. that a search from each of a list of nodes visits
abbrev pub FirstAmong : List (Vec ℕ) → (ℕ → Type 0) → List ℕ → Option ℕ → Type 0
FirstAmong g P ns found = (xs : List ℕ) × VisitsEach g ns xs × IsFirst P xs found

-- a member is of this class
abbrev pub IsOneOf : List (ClassId × ℕ) → ℕ → Type 0
IsOneOf places c = Any (λ p. p.0.0 ≡ c) places

-- a member is of this node, or of one to which edges lead from it
abbrev pub LeadsToOneOf : List (Vec ℕ) → List (ClassId × ℕ) → ℕ → Type 0
LeadsToOneOf g places n = Any (λ p. LeadsBy (HasEdge g) n p.0.0) places

-- each member is of a node
abbrev pub AreWithin : List (Vec ℕ) → List (ClassId × ℕ) → Type 0
AreWithin g places = All (λ p. p.0.0 < length g) places
