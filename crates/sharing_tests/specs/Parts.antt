-- Small programs by hand: the nodes and the edges of each method, the root last. No base edges, and no locations.
use Rattle.std.specs.Prelude.{◌≡◌, ◌+◌, ◌-◌, ◌&&◌, if◌then◌else◌, ℕ, zero, suc, Bool, true, false, List, [], ◌∷◌, ◌++◌, map, length, Option, Some, None, slice_get, option_map, nat_eq, nat_lt, nat_le}
use Rattle.slicer_ids.specs.declared.ids.NodeId.{NodeId}
use Rattle.dep_form.specs.declared.node.Node.{Node}
use Rattle.dep_form.specs.declared.node.Edge.{Edge}
use Rattle.dep_form.specs.declared.node.Label.{Label}
use Rattle.dep_form.specs.declared.node.Label.TheVariants.{Thin, Base, Call, Return}
use Rattle.dep_form.specs.declared.input.MethodInput.{MethodInput}
use Rattle.dep_form.specs.Nodes.{is_formal, is_exit}
use Rattle.sharing_tests.specs.OneMethod.{HasParts}

abbrev pub Part : Type 0
Part = List Node × List Edge

-- each method has its part: the first of them is method m, and its first node is n
abbrev pub HaveParts : ℕ → ℕ → List Part → List (Option MethodInput) → Type 0
HaveParts m n [] [] = Unit {0}
HaveParts m n [] (o ∷ os) = ⊥
HaveParts m n (p ∷ ps) [] = ⊥
HaveParts m n (p ∷ ps) (None ∷ os) = ⊥
HaveParts m n (p ∷ ps) (Some i ∷ os) = HasParts m n p.0 p.1 i × HaveParts (suc m) (n + length p.0) ps os

-- all nodes in the order of their numbers, each with its method
abbrev pub nodes_from : ℕ → List Part → List (ℕ × Node)
nodes_from m [] = []
nodes_from m (p ∷ ps) = map (λ (k : Node). (m, k)) p.0 ++ nodes_from (suc m) ps

abbrev pub edges_of : List Part → List Edge
edges_of [] = []
edges_of (p ∷ ps) = p.1 ++ edges_of ps

abbrev pub all_of : {X : Type 0} → (X → Bool) → List X → Bool
all_of f [] = true
all_of f (x ∷ xs) = f x && all_of f xs

-- what an edge joins fits its label; the root has this number
abbrev pub joins : ℕ → Option (ℕ × Node) → Option (ℕ × Node) → Label → Bool
joins root None b l = false
joins root (Some a) None l = false
joins root (Some a) (Some b) Thin = nat_eq a.0 b.0
joins root (Some a) (Some b) Base = false
joins root (Some a) (Some b) (Call c) = is_formal b.1
joins root (Some a) (Some b) (Return c) = is_exit a.1 && nat_lt a.0 root

abbrev pub is_fit : ℕ → List (ℕ × Node) → Edge → Bool
is_fit root table e = joins root (slice_get table e.from.0) (slice_get table e.to.0) e.label

-- the call of an edge, and the method of the end that lies with the caller
abbrev pub caller_at : List (ℕ × Node) → Edge → Label → Option (ℕ × ℕ)
caller_at table e Thin = None
caller_at table e Base = None
caller_at table e (Call c) = option_map (λ (x : ℕ × Node). (c.0, x.0)) (slice_get table e.from.0)
caller_at table e (Return c) = option_map (λ (x : ℕ × Node). (c.0, x.0)) (slice_get table e.to.0)

abbrev pub caller : List (ℕ × Node) → Edge → Option (ℕ × ℕ)
caller table e = caller_at table e e.label

-- the same call has the same caller
abbrev pub agree : Option (ℕ × ℕ) → Option (ℕ × ℕ) → Bool
agree None b = true
agree (Some a) None = true
agree (Some a) (Some b) = if nat_eq a.0 b.0 then nat_eq a.1 b.1 else true

abbrev pub are_fit : ℕ → List (ℕ × Node) → List Edge → Bool
are_fit root table edges = all_of (is_fit root table) edges && all_of (λ (e : Edge). all_of (λ (g : Edge). agree (caller table e) (caller table g)) edges) edges

-- the nodes that are exits of methods other than the root
abbrev pub exits_from : ℕ → ℕ → List (ℕ × Node) → List NodeId
exits_from root n [] = []
exits_from root n (x ∷ xs) = if is_exit x.1 && nat_lt x.0 root then record { 0 = n } ∷ exits_from root (suc n) xs else exits_from root (suc n) xs

-- the parts are those of a program of which the last is the root
abbrev pub is_program : ℕ → List Part → Bool
is_program root ps = nat_eq (length ps) (suc root) && (nat_lt root 1000 && (nat_le (length (nodes_from 0 ps)) 1000 && are_fit root (nodes_from 0 ps) (edges_of ps)))

-- the nodes and edges can be those of an input whose first node has this number
abbrev pub formals_lead : List Node → Bool
formals_lead [] = true
formals_lead (k ∷ ks) = if is_formal k then formals_lead ks else all_of (λ (x : Node). if is_formal x then false else true) ks

abbrev pub is_input : ℕ → List Node → List Edge → Bool
is_input first nodes edges = nat_le (first + length nodes) 1000 && (formals_lead nodes && all_of (λ (e : Edge). nat_le first e.to.0 && nat_lt e.to.0 (first + length nodes)) edges)

-- inputs, and the exits of the methods but for the root, that are those of a small program with so many methods
pub record IsSmallProgram (root : ℕ) (inputs : List (Option MethodInput)) (exits : List NodeId) : Type 0 where
  pub parts : List Part
  pub are : HaveParts 0 0 parts inputs
  pub checked : is_program root parts ≡ true
  pub exits_are : exits ≡ exits_from root 0 (nodes_from 0 parts)
