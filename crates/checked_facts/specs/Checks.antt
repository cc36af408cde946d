-- What single tests find.
use Rattle.std.specs.Prelude.{◌≡◌, ◌+◌, ◌<◌, ℕ, suc, List, [], All, Contains, Option, Some, None, length, slice_get, true}
use Rattle.slicer_ids.specs.declared.ids.NodeId.{NodeId}
use Rattle.slicer_ids.specs.declared.ids.MethodId.{MethodId}
use Rattle.slicer_ids.specs.declared.ids.CallId.{CallId}
use Rattle.slicer_ids.specs.declared.ids.Statement.{Statement}
use Rattle.dep_form.specs.declared.node.Node.{Node}
use Rattle.dep_form.specs.declared.node.Edge.{Edge}
use Rattle.dep_form.specs.declared.node.Label.{Label}
use Rattle.dep_form.specs.declared.node.Label.TheVariants.{Thin, Base, Call, Return}
use Rattle.dep_form.specs.declared.input.MethodInput.{MethodInput}
use Rattle.dep_form.specs.declared.access.Access.{Access}
use Rattle.dep_form.specs.Nodes.{is_exit, is_formal, own_pc}
use Rattle.dep_form.specs.Inputs.{IsNode, IsExitNode}
use Rattle.dep_form.specs.WithinFacts.{IsFit, InOneMethod}

abbrev pub method_at : ℕ → MethodId
method_at m = record { 0 = m }

-- it is a formal of some method
abbrev pub IsFormalNode : List (Option MethodInput) → NodeId → Type 0
IsFormalNode inputs n = (m : MethodId) × (k : Node) × IsNode inputs n m k × (is_formal k ≡ true)

-- it is the statement's own node
abbrev pub IsOwnNode : List (Option MethodInput) → NodeId → Statement → Type 0
IsOwnNode inputs n s = (k : Node) × IsNode inputs n s.method k × (own_pc k ≡ Some s.pc)

-- it is the own node of an access
abbrev pub IsAccessEnd : List (Option MethodInput) → List (Statement × Access) → NodeId → Type 0
IsAccessEnd inputs accesses n = (x : Statement × Access) × Contains accesses x × IsOwnNode inputs n x.0

-- the edge joins what its label says
abbrev pub FitsHere : List (Option MethodInput) → List (Statement × Access) → Edge → Type 0
FitsHere inputs accesses e = IsFit inputs accesses e e.label

abbrev pub caller_end_of : Label → NodeId → NodeId → Option (CallId × NodeId)
caller_end_of (Call c) q n = Some (c, q)
caller_end_of (Return c) q n = Some (c, n)
caller_end_of l q n = None

-- the call of an edge, and its node that lies with the caller
abbrev pub caller_end : Edge → Option (CallId × NodeId)
caller_end e = caller_end_of e.label e.from e.to

-- if the edge is one of this call, its end with the caller is in one method with the node
abbrev pub EndFits : List (Option MethodInput) → CallId → NodeId → Edge → Type 0
EndFits inputs c a e = (b : NodeId) → caller_end e ≡ Some (c, b) → InOneMethod inputs a b

-- .. the edges have their ends in one method with this edge's
abbrev pub EndsFit : List (Option MethodInput) → List Edge → Edge → Type 0
EndsFit inputs edges e = (c : CallId) (a : NodeId) → caller_end e ≡ Some (c, a) → All (EndFits inputs c a) edges

abbrev pub AreExits : List (Option MethodInput) → List NodeId → Type 0
AreExits inputs exits = All (λ (n : NodeId). (m : MethodId) × IsExitNode inputs n m) exits

-- the node at this place among those from `first` on is listed, where it is an exit
abbrev pub IsListedAt : List Node → ℕ → List NodeId → ℕ → Type 0
IsListedAt nodes first exits k = (x : Node) → slice_get nodes k ≡ Some x → is_exit x ≡ true → Contains exits (record { 0 = first + k })

-- each exit of the input is listed
abbrev pub AreListed : List NodeId → MethodInput → Type 0
AreListed exits i = (k : ℕ) → IsListedAt i.nodes i.first.0 exits k

-- .. of the input at this place, where one is there
abbrev pub AreListedAt : List (Option MethodInput) → List NodeId → ℕ → Type 0
AreListedAt inputs exits m = (i : MethodInput) → slice_get inputs m ≡ Some (Some i) → AreListed exits i

-- .. but of the last
abbrev pub AreAllListed : List (Option MethodInput) → List NodeId → Type 0
AreAllListed inputs exits = (m : ℕ) → suc m < length inputs → AreListedAt inputs exits m

-- the list has each edge that an input lists
abbrev pub HasEdges : List (Option MethodInput) → List Edge → Type 0
HasEdges inputs edges = (m : ℕ) (i : MethodInput) (e : Edge) → slice_get inputs m ≡ Some (Some i) → Contains i.direct e → Contains edges e

-- the edges that an input lists
abbrev pub edges_in : Option MethodInput → List Edge
edges_in None = []
edges_in (Some i) = i.direct

-- the input, where there is one, is that of the method at this place, with its first node here
abbrev pub IsAtPlace : Option MethodInput → ℕ → ℕ → Type 0
IsAtPlace None m next = Unit {0}
IsAtPlace (Some i) m next = (i.method.0 ≡ m) × (i.first.0 ≡ next)
