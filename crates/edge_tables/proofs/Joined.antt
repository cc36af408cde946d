-- Edges of one flow and of another are those of both.
use Rattle.std.proofs.Common.{◌≡◌, ◌⊎◌, ◌↔◌, ℕ, List, inl, inr, refl, subst}
use Rattle.std.specs.Global.{Vec}
use Rattle.slicer_ids.specs.declared.ids.MethodId.{MethodId}
use Rattle.slicer_ids.specs.declared.ids.NodeId.{NodeId}
use Rattle.dep_form.specs.declared.node.Edge.{Edge}
use Rattle.dep_form.specs.declared.node.Label.{Label}
use Rattle.dep_form.specs.declared.node.Node.{Node}
use Rattle.dep_form.specs.declared.system.System.{System}
use Rattle.program_form.specs.Programs.{Program}
use Rattle.input_tables.specs.Uses.{IsNodeIn}
use Rattle.edge_tables.specs.Again.{AgainFlow}
use Rattle.edge_tables.specs.Calls.{BackFlow, IntoFlow}
use Rattle.edge_tables.specs.Ends.{EndFlow}
use Rattle.edge_tables.specs.Outside.{OutsideFlow}
use Rattle.edge_tables.specs.Rows.{IsFlowEdge, IsLocalEdge, IsRow, IsRowNode}
use Rattle.edge_tables.specs.Table.{LocalFlow, OtherFlow}
use Rattle.edge_tables.proofs.CallEdges.{one_row}

module _ (p : Program) (s : System) (rows : List (Vec Node)) (firsts : List ℕ) (m : MethodId) (first : ℕ) (nodes : List Node) (row : IsRow rows firsts m first nodes) (x : Edge) where
  abbrev Some' : Node → Node → Label → Type 0
  Some' k j l = EndFlow p m k j l ⊎ (OutsideFlow s m k j l ⊎ AgainFlow s m k j l)

  out : (k j : Node) → IsNodeIn first nodes x.from k → IsNodeIn first nodes x.to j → Some' k j x.label → IsFlowEdge rows firsts (LocalFlow p s) m x
  out k j start end flow = (m, k, j, (first, nodes, row, start), (first, nodes, row, end), (refl, flow))

  here : (n : NodeId) (k : Node) → IsRowNode rows firsts n m k → IsNodeIn first nodes n k
  here n k (a, xs, other, is) =
      let same = one_row rows firsts m a first xs nodes other row in
      subst (λ (z : ℕ). IsNodeIn z nodes n k) same.0 (subst (λ (ys : List Node). IsNodeIn a ys n k) same.1 is)

  by_flow : (k j : Node) → IsNodeIn first nodes x.from k → IsNodeIn first nodes x.to j → Some' k j x.label → (IsLocalEdge first nodes (EndFlow p m) x ⊎ IsLocalEdge first nodes (OutsideFlow s m) x) ⊎ IsLocalEdge first nodes (AgainFlow s m) x
  by_flow k j start end (inl f) = inl (inl (k, j, start, end, f))
  by_flow k j start end (inr (inl f)) = inl (inr (k, j, start, end, f))
  by_flow k j start end (inr (inr f)) = inr (k, j, start, end, f)

  pub local_is : ((IsLocalEdge first nodes (EndFlow p m) x ⊎ IsLocalEdge first nodes (OutsideFlow s m) x) ⊎ IsLocalEdge first nodes (AgainFlow s m) x) ↔ IsFlowEdge rows firsts (LocalFlow p s) m x
  local_is = (to, from)
    where
      to : (IsLocalEdge first nodes (EndFlow p m) x ⊎ IsLocalEdge first nodes (OutsideFlow s m) x) ⊎ IsLocalEdge first nodes (AgainFlow s m) x → IsFlowEdge rows firsts (LocalFlow p s) m x
      to (inl (inl (k, j, start, end, f))) = out k j start end (inl f)
      to (inl (inr (k, j, start, end, f))) = out k j start end (inr (inl f))
      to (inr (k, j, start, end, f)) = out k j start end (inr (inr f))

      from : IsFlowEdge rows firsts (LocalFlow p s) m x → (IsLocalEdge first nodes (EndFlow p m) x ⊎ IsLocalEdge first nodes (OutsideFlow s m) x) ⊎ IsLocalEdge first nodes (AgainFlow s m) x
      from (a, k, j, start, end, (same, flow)) = by_flow k j (here x.from k (subst (λ (z : MethodId). IsRowNode rows firsts x.from z k) same start)) (here x.to j end) flow

module _ (p : Program) (s : System) (entries : List MethodId) (rows : List (Vec Node)) (firsts : List ℕ) (m : MethodId) (x : Edge) where
  by_other : (a : MethodId) (k j : Node) → IsRowNode rows firsts x.from a k → IsRowNode rows firsts x.to m j → OtherFlow p s entries a k m j x.label
      → (IsFlowEdge rows firsts (LocalFlow p s) m x ⊎ IsFlowEdge rows firsts (IntoFlow s entries) m x) ⊎ IsFlowEdge rows firsts (BackFlow s entries) m x
  by_other a k j start end (inl f) = inl (inl (a, k, j, start, end, f))
  by_other a k j start end (inr (inl f)) = inl (inr (a, k, j, start, end, f))
  by_other a k j start end (inr (inr f)) = inr (a, k, j, start, end, f)

  pub other_is : ((IsFlowEdge rows firsts (LocalFlow p s) m x ⊎ IsFlowEdge rows firsts (IntoFlow s entries) m x) ⊎ IsFlowEdge rows firsts (BackFlow s entries) m x) ↔ IsFlowEdge rows firsts (OtherFlow p s entries) m x
  other_is = (to, λ (a, k, j, start, end, f). by_other a k j start end f)
    where
      to : (IsFlowEdge rows firsts (LocalFlow p s) m x ⊎ IsFlowEdge rows firsts (IntoFlow s entries) m x) ⊎ IsFlowEdge rows firsts (BackFlow s entries) m x → IsFlowEdge rows firsts (OtherFlow p s entries) m x
      to (inl (inl (a, k, j, start, end, f))) = (a, k, j, start, end, inl f)
      to (inl (inr (a, k, j, start, end, f))) = (a, k, j, start, end, inr (inl f))
      to (inr (a, k, j, start, end, f)) = (a, k, j, start, end, inr (inr f))
