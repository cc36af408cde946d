-- Numbers of nodes, and edges by them.
use Rattle.std.proofs.Common.{◌≡◌, ◌≤◌, ◌+◌, ◌-◌, ℕ, List, Some, subst, arith}
use Rattle.std.specs.Prelude.{slice_get}
use Rattle.dep_form.specs.declared.node.Edge.{Edge}
use Rattle.dep_form.specs.declared.node.Label.{Label}
use Rattle.dep_form.specs.declared.node.Node.{Node}
use Rattle.input_tables.specs.Edges.{edge_of}
use Rattle.input_tables.specs.Uses.{IsNodeIn}
use Rattle.input_tables.proofs.EdgeOrder.{edge_is}

pub node_in : (first a : ℕ) (row : List Node) (k : Node) → slice_get row a ≡ Some k → IsNodeIn first row (record { 0 = first + a }) k
node_in first a row k here =
    let same : a ≡ first + a - first = omega arith in
    (omega arith, subst (λ (n : ℕ). slice_get row n ≡ Some k) same here)

pub edge_at : (first : ℕ) (x : Edge) (l : Label) → first ≤ x.from.0 → first ≤ x.to.0 → x.label ≡ l → x ≡ edge_of (first + (x.from.0 - first)) (first + (x.to.0 - first)) l
edge_at first x l low high label = edge_is x (edge_of (first + (x.from.0 - first)) (first + (x.to.0 - first)) l) (omega (arith, low)) (omega (arith, high)) label
