-- The edges between the calls of the root, as they are gathered.
use Rattle.std.proofs.Common.{◌≡◌, ◌↔◌, ◌<◌, ◌≤◌, ◌+◌, ◌-◌, ℕ, List, Contains, Option, Some, length, refl, sym, ap, subst, ◌∙◌, arith}
use Rattle.std.specs.Prelude.{slice_get}
use Rattle.std.proofs.lemmas.Option.{same_Some}
use Rattle.class_form.proofs.Indices.{index_in, there_at}
use Rattle.slicer_ids.specs.declared.ids.LocId.{LocId}
use Rattle.slicer_ids.specs.declared.ids.MethodId.{MethodId}
use Rattle.slicer_ids.specs.declared.ids.NodeId.{NodeId}
use Rattle.dep_form.specs.declared.node.Edge.{Edge}
use Rattle.dep_form.specs.declared.node.Label.{Label}
use Rattle.dep_form.specs.declared.node.Label.TheVariants.{Thin}
use Rattle.dep_form.specs.declared.node.Node.{Node}
use Rattle.dep_form.specs.declared.node.Node.TheVariants.{HeapArg, HeapResult}
use Rattle.dep_form.specs.declared.system.System.{System}
use Rattle.dep_form.specs.Constraints.{IsRoot}
use Rattle.worklists.specs.Growth.{FromOne}
use Rattle.worklists.proofs.Growing.{FromBelow}
use Rattle.input_tables.specs.Uses.{IsNodeIn}
use Rattle.edge_tables.specs.Again.{AgainFlow, IsAgainEdge, IsPairEdge}
use Rattle.edge_tables.specs.Rows.{IsEdgeBetween, IsLocalEdge, edge_of}
use Rattle.edge_tables.proofs.Local.{node_in, placed}

module _ (first : ℕ) (nodes : List Node) where
  pub node_is : (calls : ℕ) (node : Node) (k : ℕ) (n : LocId) (o : Option (ℕ × LocId)) → ((a : ℕ) (b : LocId) → (o ≡ Some (a, b)) ↔ (node ≡ HeapResult a b)) → o ≡ Some (k, n) → (x : Edge) → FromBelow (IsPairEdge first nodes k n) calls x ↔ IsAgainEdge first nodes calls node x
  node_is calls node k n o is at x = (
    λ h. (k, n, (is k n).0 at, h),
    λ (a, b, e, h). subst (λ (z : ℕ × LocId). FromBelow (IsPairEdge first nodes z.0 z.1) calls x) (same_Some (a, b) (k, n) (sym ((is a b).1 e) ∙ at)) h,
  )

  module _ (s : System) (m : MethodId) (root : IsRoot s m) (calls : ℕ) (fits : (j : ℕ) (n : LocId) → Contains nodes (HeapArg j n) → j < calls) (x : Edge) where
    pub again_to : FromOne (IsAgainEdge first nodes calls) nodes x → IsLocalEdge first nodes (AgainFlow s m) x
    again_to (node, c, (k, n, e, (j, lt, (a, b, at, there, is)))) =
        (HeapResult k n, HeapArg j n, node_in first a nodes (HeapResult k n) x.from (ap (λ (z : Edge). z.from) is) at, node_in first b nodes (HeapArg j n) x.to (ap (λ (z : Edge). z.to) is) there, (k, j, n, root, refl, refl, ap (λ (z : Edge). z.label) is))

    pub again_from : IsLocalEdge first nodes (AgainFlow s m) x → FromOne (IsAgainEdge first nodes calls) nodes x
    again_from (node, other, start, end, (k, j, n, is, e, f, thin)) =
        let here : IsNodeIn first nodes x.from (HeapResult k n) = subst (λ (z : Node). IsNodeIn first nodes x.from z) e start in
        let there : IsNodeIn first nodes x.to (HeapArg j n) = subst (λ (z : Node). IsNodeIn first nodes x.to z) f end in
        (HeapResult k n, there_at nodes (x.from.0 - first) (HeapResult k n) here.1, (k, n, refl, (j, fits j n (there_at nodes (x.to.0 - first) (HeapArg j n) there.1), (x.from.0 - first, x.to.0 - first, here.1, there.1, placed first first x Thin thin here.0 there.0))))
