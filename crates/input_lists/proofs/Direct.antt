-- The edges of operands and all others are the direct edges of a method.
use Rattle.std.proofs.Common.{◌≡◌, ◌⊎◌, ℕ, List, inl, inr, refl, subst}
use Rattle.std.specs.Global.{Vec}
use Rattle.slicer_ids.specs.declared.ids.MethodId.{MethodId}
use Rattle.slicer_ids.specs.declared.ids.NodeId.{NodeId}
use Rattle.dep_form.specs.declared.node.Edge.{Edge}
use Rattle.dep_form.specs.declared.node.Node.{Node}
use Rattle.dep_form.specs.declared.system.System.{System}
use Rattle.program_form.specs.Programs.{Program}
use Rattle.fact_form.specs.EdgeNumbers.{IsDirect}
use Rattle.input_tables.specs.Edges.{IsOperandEdge, IsOperandFlow}
use Rattle.input_tables.specs.Uses.{IsNodeIn}
use Rattle.edge_tables.specs.Rows.{IsFlowEdge, IsRow, IsRowNode}
use Rattle.edge_tables.specs.Table.{OtherFlow}
use Rattle.edge_tables.proofs.CallEdges.{one_row}
use Rattle.edge_tables.proofs.DirectFlows.{direct_from, direct_to}

module _ (p : Program) (s : System) (entries : List MethodId) (rows : List (Vec Node)) (firsts : List ℕ) (m : MethodId) (first : ℕ) (nodes : List Node) (row : IsRow rows firsts m first nodes) (e : Edge) where
  pub all_direct : IsOperandEdge p m first nodes e ⊎ IsFlowEdge rows firsts (OtherFlow p s entries) m e → IsFlowEdge rows firsts (IsDirect p s entries) m e
  all_direct (inl (k, j, start, end, flow)) = (m, k, j, (first, nodes, row, start), (first, nodes, row, end), direct_from p s entries m k m j e.label (inl (refl, flow)))
  all_direct (inr (a, k, j, start, end, flow)) = (a, k, j, start, end, direct_from p s entries a k m j e.label (inr flow))

  here : (n : NodeId) (k : Node) → IsRowNode rows firsts n m k → IsNodeIn first nodes n k
  here n k (a, xs, other, is) =
      let same = one_row rows firsts m a first xs nodes other row in
      subst (λ (z : ℕ). IsNodeIn z nodes n k) same.0 (subst (λ (ys : List Node). IsNodeIn a ys n k) same.1 is)

  parted : (a : MethodId) (k j : Node) → IsRowNode rows firsts e.from a k → IsRowNode rows firsts e.to m j → ((a ≡ m) × IsOperandFlow p m k j e.label) ⊎ OtherFlow p s entries a k m j e.label
      → IsOperandEdge p m first nodes e ⊎ IsFlowEdge rows firsts (OtherFlow p s entries) m e
  parted a k j start end (inl (same, flow)) = inl (k, j, here e.from k (subst (λ (z : MethodId). IsRowNode rows firsts e.from z k) same start), here e.to j end, flow)
  parted a k j start end (inr flow) = inr (a, k, j, start, end, flow)

  pub direct_all : IsFlowEdge rows firsts (IsDirect p s entries) m e → IsOperandEdge p m first nodes e ⊎ IsFlowEdge rows firsts (OtherFlow p s entries) m e
  direct_all (a, k, j, start, end, d) = parted a k j start end (direct_to p s entries a k m j e.label d)
