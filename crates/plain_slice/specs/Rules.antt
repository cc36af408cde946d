-- What leads back from a pair.
use Rattle.std.specs.Prelude.{◌≡◌, ◌⊎◌, ◌↔◌, ◌<◌, ℕ, Bool, true, false, List, All, Contains, nat_eq}
use Rattle.slicer_ids.specs.declared.ids.NodeId.{NodeId}
use Rattle.dep_form.specs.declared.node.Edge.{Edge}
use Rattle.dep_form.specs.Paths.{HasSameLevelPath}
use Rattle.dep_form.specs.declared.node.Label.{Label}
use Rattle.dep_form.specs.declared.node.Label.TheVariants.{Thin, Base, Call, Return}
use Rattle.worklists.specs.Growth.{FromOne}
use Rattle.plain_slice.specs.declared.table.Pair.{Pair}
use Rattle.plain_slice.specs.Tables.{IsBelow, pair}

-- the ends of the edges are below the size
abbrev pub AreBelow : ℕ → List Edge → Type 0
AreBelow size edges = All (λ (e : Edge). (e.from.0 < size) × (e.to.0 < size)) edges

abbrev pub node : ℕ → NodeId
node n = record { 0 = n }

-- an edge by which a value flows within a method
abbrev pub is_flow : Label → Bool
is_flow Thin = true
is_flow Base = true
is_flow (Call c) = false
is_flow (Return c) = false

-- back along one edge within a method
abbrev pub FollowsOne : Pair → Edge → Pair → Type 0
FollowsOne p e q = (is_flow e.label ≡ true) × (e.to.0 ≡ p.node) × (q ≡ pair e.from.0 p.place)

-- the labels of a call, and of a return to it
abbrev pub is_call_of : Label → Label → Bool
is_call_of (Call c) (Return d) = nat_eq c.0 d.0
is_call_of (Call c) Thin = false
is_call_of (Call c) Base = false
is_call_of (Call c) (Call d) = false
is_call_of Thin l = false
is_call_of Base l = false
is_call_of (Return c) l = false

-- over a whole call: into the inner pair's node, and from its place back to the outer pair's node
abbrev pub IsWhole : Pair → Pair → Edge → Edge → Type 0
IsWhole outer inner back into =
    (into.to.0 ≡ inner.node) × (back.from.0 ≡ inner.place) × (back.to.0 ≡ outer.node) × (is_call_of into.label back.label ≡ true)

abbrev pub JoinsOne : Pair → Pair → Edge → Edge → Pair → Type 0
JoinsOne outer inner back into q = IsWhole outer inner back into × (q ≡ pair into.from.0 outer.place)

abbrev pub JoinsBack : List Edge → Pair → Pair → Edge → Pair → Type 0
JoinsBack edges outer inner back = FromOne (JoinsOne outer inner back) edges

abbrev pub Joins : List Edge → Pair → Pair → Pair → Type 0
Joins edges outer inner = FromOne (JoinsBack edges outer inner) edges

abbrev pub Follows : List Edge → Pair → Pair → Type 0
Follows edges p = FromOne (FollowsOne p) edges

-- back along one edge in a walk of two phases: up to callers in phase 1, into methods in phase 0
abbrev pub may_go : ℕ → Label → Bool
may_go phase Thin = false
may_go phase Base = false
may_go phase (Call c) = nat_eq phase 0
may_go phase (Return c) = nat_eq phase 1

abbrev pub MovesOne : Pair → Edge → Pair → Type 0
MovesOne p e q = (may_go p.place e.label ≡ true) × (e.to.0 ≡ p.node) × (q ≡ pair e.from.0 p.place)

-- along a same-level path
abbrev pub JumpsOne : Pair → Pair → Pair → Type 0
JumpsOne p level q = (level.place ≡ p.node) × (q ≡ pair level.node p.place)

-- the second phase begins
abbrev pub Turns : Pair → Pair → Type 0
Turns p q = (nat_eq p.place 0 ≡ true) × (q ≡ pair p.node 1)

abbrev pub Leaves : List Edge → List Pair → Pair → Pair → Type 0
Leaves edges levels p q = (FromOne (MovesOne p) edges q ⊎ FromOne (JumpsOne p) levels q) ⊎ Turns p q

-- the pairs below the size with a same-level path from the first node to the second
pub record AreLevels (size : ℕ) (edges : List Edge) (levels : List Pair) : Type 0 where
  pub below : All (IsBelow size) levels
  pub exact : (n x : ℕ) → x < size → Contains levels (pair n x) ↔ HasSameLevelPath (Contains edges) (node n) (node x)

-- the seeds are below the size
abbrev pub AreSeeds : ℕ → List NodeId → Type 0
AreSeeds size seeds = All (λ (s : NodeId). s.0 < size) seeds
