-- The edges of calls are what goes into the methods that are called, and what comes back.
use Rattle.std.proofs.Common.{◌≡◌, ◌↔◌, ◌≤◌, ◌+◌, ◌-◌, ℕ, true, false, List, Contains, Some, refl, sym, ap, subst, ◌∙◌}
use Rattle.std.specs.Prelude.{slice_get}
use Rattle.std.specs.Global.{Vec}
use Rattle.class_form.proofs.Indices.{there_at}
use Rattle.slicer_ids.specs.declared.ids.CallId.{CallId}
use Rattle.slicer_ids.specs.declared.ids.MethodId.{MethodId}
use Rattle.slicer_ids.specs.declared.ids.NodeId.{NodeId}
use Rattle.dep_form.specs.declared.node.Edge.{Edge}
use Rattle.dep_form.specs.declared.node.Label.{Label}
use Rattle.dep_form.specs.declared.node.Label.TheVariants.{Call, Return as BackFrom}
use Rattle.dep_form.specs.declared.node.Node.{Node}
use Rattle.dep_form.specs.declared.system.System.{System}
use Rattle.fact_form.specs.EdgeNumbers.{IsCallNumber}
use Rattle.worklists.specs.Growth.{FromOne}
use Rattle.input_tables.specs.Uses.{IsNodeIn}
use Rattle.edge_tables.specs.Calls.{BackFlow, IntoFlow, IsBackLinkEdge, IsIntoLinkEdge}
use Rattle.edge_tables.specs.Links.{AreLinks, IsAnyLink, link_of}
use Rattle.edge_tables.specs.Rows.{IsFlowEdge, IsRow, IsRowNode}
use Rattle.edge_tables.specs.declared.links.Link.{Link}
use Rattle.edge_tables.proofs.CallEdges.{comes_from_exit, goes_to_formal, one_row}
use Rattle.edge_tables.proofs.Local.{node_in, placed}

method_is : (a b : MethodId) → a.0 ≡ b.0 → a ≡ b
method_is a b e = ap (λ (n : ℕ). record { 0 = n }) e

module _ (rows : List (Vec Node)) (firsts : List ℕ) (s : System) (entries : List MethodId) (m : MethodId) (first : ℕ) (nodes : List Node) (row : IsRow rows firsts m first nodes) (links chosen : List Link) (x : Edge) where
  end_node : (j : Node) → IsRowNode rows firsts x.to m j → IsNodeIn first nodes x.to j
  end_node j (a, xs, other, is) =
      let same = one_row rows firsts m a first xs nodes other row in
      subst (λ (n : ℕ). IsNodeIn n nodes x.to j) same.0 (subst (λ (ys : List Node). IsNodeIn a ys x.to j) same.1 is)

  module _ (are : AreLinks true s entries links) (is : (z : Link) → Contains chosen z ↔ (Contains links z × (z.key.0 ≡ m.0))) where
    into_by : (c : CallId) (a : MethodId) (pc : ℕ) (t : MethodId) → IsCallNumber s entries c a pc t → t.0 ≡ m.0 → IsIntoLinkEdge rows firsts first nodes (link_of true c a pc t) x → IsFlowEdge rows firsts (IntoFlow s entries) m x
    into_by c a pc t number same (from, xs, there, (j, among, formal, (k, goes, (i, n, at, here, e)))) = (
      a,
      k,
      j,
      (from, xs, there, node_in from i xs k x.from (ap (λ (z : Edge). z.from) e) at),
      (first, nodes, row, node_in first n nodes j x.to (ap (λ (z : Edge). z.to) e) here),
      (c, pc, subst (λ (z : MethodId). IsCallNumber s entries c a pc z) (method_is t m same) number, goes, ap (λ (z : Edge). z.label) e),
    )

    pub into_to : FromOne (IsIntoLinkEdge rows firsts first nodes) chosen x → IsFlowEdge rows firsts (IntoFlow s entries) m x
    into_to (link, c, h) =
        let w = (is link).0 c in
        let any : IsAnyLink true s entries link = (are.members link).0 w.0 in
        into_by any.0 any.1 any.2 any.3 any.4 (ap (λ (z : Link). z.key.0) (sym any.5) ∙ w.1) (subst (λ (z : Link). IsIntoLinkEdge rows firsts first nodes z x) any.5 h)

    pub into_from : IsFlowEdge rows firsts (IntoFlow s entries) m x → FromOne (IsIntoLinkEdge rows firsts first nodes) chosen x
    into_from (a, k, j, (from, xs, there, start), target, (c, pc, number, goes, label)) =
        let end = end_node j target in
        let link = link_of true c a pc m in
        (link, (is link).1 ((are.members link).1 (c, a, pc, m, number, refl), refl), (from, xs, there, (j, there_at nodes (x.to.0 - first) j end.1, goes_to_formal pc k j goes, (k, goes, (x.from.0 - from, x.to.0 - first, start.1, end.1, placed from first x (Call c) label start.0 end.0)))))

  module _ (are : AreLinks false s entries links) (is : (z : Link) → Contains chosen z ↔ (Contains links z × (z.key.0 ≡ m.0))) where
    back_by : (c : CallId) (a : MethodId) (pc : ℕ) (t : MethodId) → IsCallNumber s entries c a pc t → a.0 ≡ m.0 → IsBackLinkEdge rows firsts first nodes (link_of false c a pc t) x → IsFlowEdge rows firsts (BackFlow s entries) m x
    back_by c a pc t number same (from, xs, there, (k, among, exit, (j, comes, (i, n, at, here, e)))) = (
      t,
      k,
      j,
      (from, xs, there, node_in from i xs k x.from (ap (λ (z : Edge). z.from) e) at),
      (first, nodes, row, node_in first n nodes j x.to (ap (λ (z : Edge). z.to) e) here),
      (c, pc, subst (λ (z : MethodId). IsCallNumber s entries c z pc t) (method_is a m same) number, comes, ap (λ (z : Edge). z.label) e),
    )

    pub back_to : FromOne (IsBackLinkEdge rows firsts first nodes) chosen x → IsFlowEdge rows firsts (BackFlow s entries) m x
    back_to (link, c, h) =
        let w = (is link).0 c in
        let any : IsAnyLink false s entries link = (are.members link).0 w.0 in
        back_by any.0 any.1 any.2 any.3 any.4 (ap (λ (z : Link). z.key.0) (sym any.5) ∙ w.1) (subst (λ (z : Link). IsBackLinkEdge rows firsts first nodes z x) any.5 h)

    pub back_from : IsFlowEdge rows firsts (BackFlow s entries) m x → FromOne (IsBackLinkEdge rows firsts first nodes) chosen x
    back_from (a, k, j, (from, xs, there, start), target, (c, pc, number, comes, label)) =
        let end = end_node j target in
        let link = link_of false c m pc a in
        (link, (is link).1 ((are.members link).1 (c, m, pc, a, number, refl), refl), (from, xs, there, (k, there_at xs (x.from.0 - from) k start.1, comes_from_exit pc k j comes, (j, comes, (x.from.0 - from, x.to.0 - first, start.1, end.1, placed from first x (BackFrom c) label start.0 end.0)))))
