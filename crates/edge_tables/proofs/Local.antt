-- Nodes and edges by their numbers, and by their places in rows.
use Rattle.std.proofs.Common.{◌≡◌, ◌≤◌, ◌+◌, ◌-◌, ℕ, List, Some, refl, sym, ap, subst, ◌∙◌, arith}
use Rattle.std.specs.Prelude.{slice_get}
use Rattle.slicer_ids.specs.declared.ids.NodeId.{NodeId}
use Rattle.dep_form.specs.declared.node.Edge.{Edge}
use Rattle.dep_form.specs.declared.node.Label.{Label}
use Rattle.dep_form.specs.declared.node.Node.{Node}
use Rattle.input_tables.specs.Uses.{IsNodeIn}
use Rattle.edge_tables.specs.Rows.{edge_of}

-- the node at a place has the number
pub node_in : (first a : ℕ) (nodes : List Node) (k : Node) (n : NodeId) → n ≡ record { 0 = first + a } → slice_get nodes a ≡ Some k → IsNodeIn first nodes n k
node_in first a nodes k n e at =
    let number : n.0 ≡ first + a = ap (λ (z : NodeId). z.0) e in
    let place : a ≡ n.0 - first = omega (arith, number) in
    (omega (arith, number), subst (λ (i : ℕ). slice_get nodes i ≡ Some k) place at)

edge_is : (x : Edge) (a b : ℕ) (l : Label) → x.from.0 ≡ a → x.to.0 ≡ b → x.label ≡ l → x ≡ edge_of a b l
edge_is x a b l p q r = rw (← p, ← q, ← r) refl

-- the edge by the places of its nodes
pub placed : (from to : ℕ) (x : Edge) (l : Label) → x.label ≡ l → from ≤ x.from.0 → to ≤ x.to.0 → x ≡ edge_of (from + (x.from.0 - from)) (to + (x.to.0 - to)) l
placed from to x l label p q = edge_is x (from + (x.from.0 - from)) (to + (x.to.0 - to)) l (omega (arith, p)) (omega (arith, q)) label
