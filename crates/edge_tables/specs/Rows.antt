-- Rows of nodes by method, and edges between the nodes of two rows.
use Rattle.std.specs.Prelude.{◌≡◌, ◌<◌, ◌≤◌, ◌+◌, ◌^◌, ℕ, List, Option, Some, AllPairs, length, slice_get, sum_by, take}
use Rattle.std.specs.Global.{Vec}
use Rattle.slicer_ids.specs.declared.ids.MethodId.{MethodId}
use Rattle.slicer_ids.specs.declared.ids.NodeId.{NodeId}
use Rattle.dep_form.specs.declared.node.Edge.{Edge}
use Rattle.dep_form.specs.declared.node.Label.{Label}
use Rattle.dep_form.specs.declared.node.Node.{Node}
use Rattle.dep_form.specs.Nodes.{ComesBefore}
use Rattle.input_tables.specs.Uses.{IsNodeIn}

-- how many nodes a row has
abbrev pub size_of : Vec Node → ℕ
size_of row = length row.items

-- for each row how many nodes the rows before it have
pub record AreFirsts (rows : List (Vec Node)) (firsts : List ℕ) : Type 0 where
  pub size : length firsts ≡ length rows
  pub are : (m n : ℕ) → slice_get firsts m ≡ Some n → n ≡ sum_by size_of (take m rows)

-- rows in order, with the numbers of their first nodes
pub record AreRows (rows : List (Vec Node)) (firsts : List ℕ) : Type 0 where
  pub firsts_are : AreFirsts rows firsts
  pub ordered : (m : ℕ) (row : Vec Node) → slice_get rows m ≡ Some row → AllPairs ComesBefore row.items
  pub few : sum_by size_of rows ≤ 2 ^ 24

-- these are the nodes of the method, and the number of the first of them
abbrev pub IsRow : List (Vec Node) → List ℕ → MethodId → ℕ → List Node → Type 0
IsRow rows firsts m first nodes = (row : Vec Node) × (slice_get rows m.0 ≡ Some row) × (row.items ≡ nodes) × (slice_get firsts m.0 ≡ Some first)

-- the node has this number, is of this method and is such
abbrev pub IsRowNode : List (Vec Node) → List ℕ → NodeId → MethodId → Node → Type 0
IsRowNode rows firsts n m k = (first : ℕ) × (nodes : List Node) × IsRow rows firsts m first nodes × IsNodeIn first nodes n k

-- the nodes are in order, and their numbers have 32 bits
pub record IsGoodRow (first : ℕ) (nodes : List Node) : Type 0 where
  pub order : AllPairs ComesBefore nodes
  pub numbers : first + length nodes ≤ 2 ^ 24

abbrev pub edge_of : ℕ → ℕ → Label → Edge
edge_of a b l = record { from = record { 0 = a }; to = record { 0 = b }; label = l }

-- an edge from a number to the node that was found, and one where both were found
abbrev pub IsStartedEdge : ℕ → ℕ → Option ℕ → Label → Edge → Type 0
IsStartedEdge from first end l x = (b : ℕ) × (end ≡ Some b) × (x ≡ edge_of from (first + b) l)

abbrev pub IsFoundEdge : ℕ → Option ℕ → ℕ → Option ℕ → Label → Edge → Type 0
IsFoundEdge from start to end l x = (a : ℕ) × (start ≡ Some a) × IsStartedEdge (from + a) to end l x

-- the edge between two nodes of two rows
abbrev pub IsEdgeBetween : ℕ → List Node → Node → ℕ → List Node → Node → Label → Edge → Type 0
IsEdgeBetween from xs k to ys j l x = (a : ℕ) × (b : ℕ) × (slice_get xs a ≡ Some k) × (slice_get ys b ≡ Some j) × (x ≡ edge_of (from + a) (to + b) l)

-- the edge between two nodes of one row for which F holds
abbrev pub IsLocalEdge : ℕ → List Node → (Node → Node → Label → Type 0) → Edge → Type 0
IsLocalEdge first nodes F e = (k : Node) × (j : Node) × IsNodeIn first nodes e.from k × IsNodeIn first nodes e.to j × F k j e.label

-- .. between a node of any method and one of the method
abbrev pub IsFlowEdge : List (Vec Node) → List ℕ → (MethodId → Node → MethodId → Node → Label → Type 0) → MethodId → Edge → Type 0
IsFlowEdge rows firsts F m e =
    (a : MethodId) × (k : Node) × (j : Node) × IsRowNode rows firsts e.from a k × IsRowNode rows firsts e.to m j × F a k m j e.label
