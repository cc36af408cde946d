-- Definitions and uses of locations by the numbers of points and nodes.
use Rattle.std.specs.Prelude.{◌≡◌, ◌⊎◌, ◌↔◌, ◌≤◌, ◌+◌, ◌-◌, ℕ, Bool, true, false, List, Option, Some, Contains, slice_get}
use Rattle.slicer_ids.specs.Sets.{IsOrderedListOf}
use Rattle.slicer_ids.specs.declared.ids.LocId.{LocId}
use Rattle.slicer_ids.specs.declared.ids.MethodId.{MethodId}
use Rattle.slicer_ids.specs.declared.ids.NodeId.{NodeId}
use Rattle.class_form.specs.declared.body.Body.{Body}
use Rattle.class_form.specs.declared.body.Point.{Point}
use Rattle.dep_form.specs.declared.effects.ModRef.{ModRef}
use Rattle.dep_form.specs.declared.node.Node.{Node}
use Rattle.dep_form.specs.declared.node.Node.TheVariants.{Own, Result, HeapArg, HeapResult}
use Rattle.dep_form.specs.declared.system.System.{System}
use Rattle.dep_form.specs.Nodes.{ComesBefore}
use Rattle.program_form.specs.Programs.{Program}
use Rattle.fact_form.specs.EffectNumbers.{DefinesNumber, UsesNumber}
use Rattle.fact_form.specs.FactTables.{IsPointAt, UseBefore}
use Rattle.fact_form.specs.NodeNumbers.{IsNumbered}
use Rattle.worklists.specs.Growth.{FromOne}
use Rattle.input_tables.specs.declared.effects.Effect.{Effect}
use Rattle.input_tables.specs.declared.uses.Use.{Use}
use Rattle.input_tables.specs.Control.{ArePointsOf, StandsAt}

abbrev pub use_of : ℕ → ℕ → LocId → Use
use_of q i n = record { point = q; node = record { 0 = i }; location = n }

abbrev pub triple_of : Use → ℕ × NodeId × LocId
triple_of x = (x.point, x.node, x.location)

-- by point, then node, then location
abbrev pub IsBefore : Use → Use → Type 0
IsBefore a b = UseBefore (triple_of a) (triple_of b)

-- a use at a point and the node that was found
abbrev pub IsPlacedUse : ℕ → ℕ → Option ℕ → LocId → Use → Type 0
IsPlacedUse first q place n x = (i : ℕ) × (place ≡ Some i) × (x ≡ use_of q (first + i) n)

-- .. and the point that was found
abbrev pub IsFoundUse : ℕ → Option ℕ → Option ℕ → LocId → Use → Type 0
IsFoundUse first point place n x = (q : ℕ) × (point ≡ Some q) × IsPlacedUse first q place n x

-- the node of a statement, or that of what it answers
abbrev pub node_at : Bool → ℕ → Node
node_at true pc = Result pc
node_at false pc = Own pc

-- a location before a call, or after it
abbrev pub callee_node : Bool → ℕ → LocId → Node
callee_node true pc n = HeapResult pc n
callee_node false pc n = HeapArg pc n

module _ (points : List Point) (first : ℕ) (row : List Node) where
  -- a use by a node, at a pc
  abbrev pub IsUseAt : ℕ → Node → LocId → Use → Type 0
  IsUseAt pc k n x = (q : ℕ) × (i : ℕ) × StandsAt points q pc × (slice_get row i ≡ Some k) × (x ≡ use_of q (first + i) n)

  abbrev pub IsEffectUse : Bool → Effect → Use → Type 0
  IsEffectUse result e x = IsUseAt e.at.pc (node_at result e.at.pc) e.location x

  abbrev pub IsCalleeUse : Bool → Node → Use → Type 0
  IsCalleeUse write k x = (pc : ℕ) × (n : LocId) × (k ≡ callee_node write pc n) × IsUseAt pc k n x

  -- what own nodes, results and calls define, or use
  abbrev pub IsAnyUse : Bool → List Effect → List Effect → Use → Type 0
  IsAnyUse write own results x =
      FromOne (IsEffectUse false) own x ⊎ (FromOne (IsEffectUse true) results x ⊎ FromOne (IsCalleeUse write) row x)

-- these are the definitions, or uses, of a method whose nodes a row has, by what is gathered
abbrev pub AreUsesOf : List Body → MethodId → ℕ → List Node → Bool → List Effect → List Effect → List (ℕ × NodeId × LocId) → Type 0
AreUsesOf bodies m first row write own results v =
    (points : List Point) × ArePointsOf bodies m points × ((q : ℕ) (x : NodeId) (n : LocId) → Contains v (q, x, n) ↔ IsAnyUse points first row write own results (use_of q x.0 n))

-- the node has this number in a row of nodes that are numbered from `first` on
abbrev pub IsNodeIn : ℕ → List Node → NodeId → Node → Type 0
IsNodeIn first row n k = (first ≤ n.0) × (slice_get row (n.0 - first) ≡ Some k)

module _ (p : Program) (s : System) (mr : ModRef) (entries : List MethodId) (m : MethodId) (first : ℕ) (row : List Node) where
  -- a node defines, or uses, the location at a point
  abbrev pub IsPutAt : ℕ → NodeId → LocId → Type 0
  IsPutAt q x n = (pc : ℕ) × (k : Node) × IsPointAt p m q pc × IsNodeIn first row x k × DefinesNumber p s mr entries m pc n k

  abbrev pub IsGetAt : ℕ → NodeId → LocId → Type 0
  IsGetAt q x n = (pc : ℕ) × (k : Node) × IsPointAt p m q pc × IsNodeIn first row x k × UsesNumber p s mr entries m pc n k

-- the definitions, or uses, of a method whose nodes a row has
abbrev pub ArePutsOf : List Body → System → ModRef → MethodId → ℕ → List Node → List (ℕ × NodeId × LocId) → Type 0
ArePutsOf bodies s mr m first row puts =
    (p : Program) (entries : List MethodId) → p.bodies ≡ bodies → IsOrderedListOf ComesBefore row (IsNumbered p s mr entries m) →
    (q : ℕ) (x : NodeId) (n : LocId) → Contains puts (q, x, n) ↔ IsPutAt p s mr entries m first row q x n

abbrev pub AreGetsOf : List Body → System → ModRef → MethodId → ℕ → List Node → List (ℕ × NodeId × LocId) → Type 0
AreGetsOf bodies s mr m first row gets =
    (p : Program) (entries : List MethodId) → p.bodies ≡ bodies → IsOrderedListOf ComesBefore row (IsNumbered p s mr entries m) →
    (q : ℕ) (x : NodeId) (n : LocId) → Contains gets (q, x, n) ↔ IsGetAt p s mr entries m first row q x n
