-- The edges of calls that go outside are what flows there.
use Rattle.std.proofs.Common.{◌≡◌, ◌⊎◌, ◌≤◌, ◌+◌, ◌-◌, ℕ, List, Contains, Some, inl, inr, length, refl, sym, ap, subst, ◌∙◌, arith}
use Rattle.std.specs.Prelude.{slice_get}
use Rattle.std.proofs.lemmas.Option.{slice_get_within}
use Rattle.class_form.proofs.Indices.{index_at, there_at}
use Rattle.slicer_ids.specs.declared.ids.CallId.{CallId}
use Rattle.slicer_ids.specs.declared.ids.MethodId.{MethodId}
use Rattle.slicer_ids.specs.declared.ids.NodeId.{NodeId}
use Rattle.dep_form.specs.declared.call_site.CallSite.{CallSite}
use Rattle.dep_form.specs.declared.node.Edge.{Edge}
use Rattle.dep_form.specs.declared.node.Label.TheVariants.{Thin}
use Rattle.dep_form.specs.declared.node.Node.{Node}
use Rattle.dep_form.specs.declared.node.Node.TheVariants.{Argument, Own, Result}
use Rattle.dep_form.specs.declared.rules.OutsideRule.{OutsideRule}
use Rattle.dep_form.specs.declared.system.System.{System}
use Rattle.program_form.specs.Nodes.{at}
use Rattle.program_form.specs.Systems.{IsCallOf}
use Rattle.worklists.specs.Growth.{FromOne}
use Rattle.input_tables.specs.Uses.{IsNodeIn}
use Rattle.edge_tables.specs.Outside.{IsArgumentEdge, IsGone, IsOutsideEdge, OutsideFlow}
use Rattle.edge_tables.specs.Rows.{IsEdgeBetween, IsLocalEdge}
use Rattle.edge_tables.proofs.Local.{node_in, placed}

module _ (first : ℕ) (nodes : List Node) (s : System) (m : MethodId) (x : Edge) where
  by_edge : (k j : Node) → IsEdgeBetween first nodes k first nodes j Thin x → (OutsideFlow s m k j x.label) → IsLocalEdge first nodes (OutsideFlow s m) x
  by_edge k j (a, b, here, there, is) flow =
      (k, j, node_in first a nodes k x.from (ap (λ (z : Edge). z.from) is) here, node_in first b nodes j x.to (ap (λ (z : Edge). z.to) is) there, flow)

  label_is : (k j : Node) → IsEdgeBetween first nodes k first nodes j Thin x → x.label ≡ Thin
  label_is k j (a, b, here, there, is) = ap (λ (z : Edge). z.label) is

  pub outside_to : FromOne (IsOutsideEdge first nodes s m) nodes x → IsLocalEdge first nodes (OutsideFlow s m) x
  outside_to (node, c, (pc, i, e, (n, (site, there, place), (gone, r, rule, inl edge)))) =
      by_edge (Argument pc i) (Result pc) edge (pc, i, n, site, (there, place), gone, refl, label_is (Argument pc i) (Result pc) edge, inl refl)
  outside_to (node, c, (pc, i, e, (n, (site, there, place), (gone, r, rule, inr (written, edge))))) =
      by_edge (Argument pc i) (Own pc) edge (pc, i, n, site, (there, place), gone, refl, label_is (Argument pc i) (Own pc) edge, inr (r, rule, written, refl))

  edge_by : (k j : Node) → IsNodeIn first nodes x.from k → IsNodeIn first nodes x.to j → x.label ≡ Thin → IsEdgeBetween first nodes k first nodes j Thin x
  edge_by k j start end thin = (x.from.0 - first, x.to.0 - first, start.1, end.1, placed first first x Thin thin start.0 end.0)

  pub outside_from : ((c : CallId) (site : CallSite) (pc : ℕ) → IsCallOf s (at m pc) c site → (r : OutsideRule) × (slice_get s.outside_rules c.0 ≡ Some r)) → IsLocalEdge first nodes (OutsideFlow s m) x → FromOne (IsOutsideEdge first nodes s m) nodes x
  outside_from rules (k, j, start, end, (pc, i, c, site, (there, place), gone, e, thin, inl f)) =
      let here : IsNodeIn first nodes x.from (Argument pc i) = subst (λ (z : Node). IsNodeIn first nodes x.from z) e start in
      let to : IsNodeIn first nodes x.to (Result pc) = subst (λ (z : Node). IsNodeIn first nodes x.to z) f end in
      let r = rules c site pc (there, place) in
      (Argument pc i, there_at nodes (x.from.0 - first) (Argument pc i) here.1, (pc, i, refl, (c, (site, there, place), (gone, r.0, r.1, inl (edge_by (Argument pc i) (Result pc) here to thin)))))
  outside_from rules (k, j, start, end, (pc, i, c, site, (there, place), gone, e, thin, inr (r, rule, written, f))) =
      let here : IsNodeIn first nodes x.from (Argument pc i) = subst (λ (z : Node). IsNodeIn first nodes x.from z) e start in
      let to : IsNodeIn first nodes x.to (Own pc) = subst (λ (z : Node). IsNodeIn first nodes x.to z) f end in
      (Argument pc i, there_at nodes (x.from.0 - first) (Argument pc i) here.1, (pc, i, refl, (c, (site, there, place), (gone, r, rule, inr (written, edge_by (Argument pc i) (Own pc) here to thin)))))

-- each call has its rule
pub rule_there : (s : System) (m : MethodId) (c : CallId) (site : CallSite) (pc : ℕ) → IsCallOf s (at m pc) c site → (r : OutsideRule) × (slice_get s.outside_rules c.0 ≡ Some r)
rule_there s m c site pc is = index_at s.outside_rules c.0 (omega (arith, s.rule_each, slice_get_within s.calls c.0 site is.0))
