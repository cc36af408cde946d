-- The edges of calls, as they are gathered.
use Rattle.std.proofs.Common.{◌≡◌, ◌⊎◌, ◌↔◌, ◌<◌, ◌+◌, ℕ, true, false, List, Contains, Option, Some, inl, inr, refl, sym, ap, subst, ◌∙◌}
use Rattle.std.specs.Prelude.{slice_get}
use Rattle.std.specs.Global.{Vec}
use Rattle.std.proofs.lemmas.Option.{same_Some}
use Rattle.class_form.proofs.Indices.{there_at}
use Rattle.slicer_ids.specs.declared.ids.CallId.{CallId}
use Rattle.slicer_ids.specs.declared.ids.MethodId.{MethodId}
use Rattle.slicer_ids.specs.declared.ids.NodeId.{NodeId}
use Rattle.dep_form.specs.declared.node.Edge.{Edge}
use Rattle.dep_form.specs.declared.node.Label.{Label}
use Rattle.dep_form.specs.declared.node.Label.TheVariants.{Call, Return as BackFrom}
use Rattle.dep_form.specs.declared.node.Node.{Node}
use Rattle.dep_form.specs.declared.system.System.{System}
use Rattle.dep_form.specs.Nodes.{is_exit, is_formal}
use Rattle.fact_form.specs.EdgeNumbers.{IsCallNumber}
use Rattle.worklists.specs.Growth.{FromOne}
use Rattle.input_tables.specs.Uses.{IsNodeIn}
use Rattle.edge_tables.specs.Calls.{BackFlow, ComesBack, GoesIn, IntoFlow, IsBackEdge, IsBackLinkEdge, IsExitEdge, IsFormalEdge, IsIntoEdge, IsIntoLinkEdge}
use Rattle.edge_tables.specs.Links.{AreLinks, IsAnyLink, link_of}
use Rattle.edge_tables.specs.Rows.{IsEdgeBetween, IsFlowEdge, IsRow, IsRowNode, edge_of}
use Rattle.edge_tables.specs.declared.links.Link.{Link}

-- ---- one node at the other end
module _ (from : ℕ) (xs : List Node) (to : ℕ) (ys : List Node) (link : Link) where
  pub formal_is : (j k : Node) (o : Option Node) → ((i : Node) → (o ≡ Some i) ↔ GoesIn link.pc i j) → o ≡ Some k → (x : Edge) → IsEdgeBetween from xs k to ys j (Call link.number) x ↔ IsFormalEdge from xs to ys link j x
  formal_is j k o is at x = (
    λ h. (k, (is k).0 at, h),
    λ (i, goes, h). subst (λ (z : Node). IsEdgeBetween from xs z to ys j (Call link.number) x) (same_Some i k (sym ((is i).1 goes) ∙ at)) h,
  )

  pub exit_is : (k j : Node) (o : Option Node) → ((i : Node) → (o ≡ Some i) ↔ ComesBack link.pc k i) → o ≡ Some j → (x : Edge) → IsEdgeBetween from xs k to ys j (BackFrom link.number) x ↔ IsExitEdge from xs to ys link k x
  exit_is k j o is at x = (
    λ h. (j, (is j).0 at, h),
    λ (i, comes, h). subst (λ (z : Node). IsEdgeBetween from xs k to ys z (BackFrom link.number) x) (same_Some i j (sym ((is i).1 comes) ∙ at)) h,
  )

  pub formals_are : (chosen : List Node) → ((k : Node) → Contains chosen k ↔ (Contains ys k × (is_formal k ≡ true))) → (x : Edge) → FromOne (IsFormalEdge from xs to ys link) chosen x ↔ IsIntoEdge from xs to ys link x
  formals_are chosen is x = (λ (j, c, h). let w = (is j).0 c in (j, w.0, w.1, h), λ (j, c, formal, h). (j, (is j).1 (c, formal), h))

  pub exits_are : (chosen : List Node) → ((k : Node) → Contains chosen k ↔ (Contains xs k × (is_exit k ≡ true))) → (x : Edge) → FromOne (IsExitEdge from xs to ys link) chosen x ↔ IsBackEdge from xs to ys link x
  exits_are chosen is x = (λ (k, c, h). let w = (is k).0 c in (k, w.0, w.1, h), λ (k, c, exit, h). (k, (is k).1 (c, exit), h))

-- ---- one row of a method
module _ (rows : List (Vec Node)) (firsts : List ℕ) (m : MethodId) where
  pub one_row : (a b : ℕ) (xs ys : List Node) → IsRow rows firsts m a xs → IsRow rows firsts m b ys → (a ≡ b) × (xs ≡ ys)
  one_row a b xs ys (v, at, is, first) (w, there, be, other) = (same_Some a b (sym first ∙ other), sym is ∙ ap (λ (z : Vec Node). z.items) (same_Some v w (sym at ∙ there)) ∙ be)

module _ (rows : List (Vec Node)) (firsts : List ℕ) (to : ℕ) (ys : List Node) (link : Link) where
  pub into_row : (from : ℕ) (xs : List Node) → IsRow rows firsts link.caller from xs → (x : Edge) → IsIntoEdge from xs to ys link x ↔ IsIntoLinkEdge rows firsts to ys link x
  into_row from xs row x = (
    λ h. (from, xs, row, h),
    λ (a, zs, other, h). let e = one_row rows firsts link.caller a from zs xs other row in subst (λ (n : ℕ). IsIntoEdge n xs to ys link x) e.0 (subst (λ (z : List Node). IsIntoEdge a z to ys link x) e.1 h),
  )

  pub back_row : (from : ℕ) (xs : List Node) → IsRow rows firsts link.target from xs → (x : Edge) → IsBackEdge from xs to ys link x ↔ IsBackLinkEdge rows firsts to ys link x
  back_row from xs row x = (
    λ h. (from, xs, row, h),
    λ (a, zs, other, h). let e = one_row rows firsts link.target a from zs xs other row in subst (λ (n : ℕ). IsBackEdge n xs to ys link x) e.0 (subst (λ (z : List Node). IsBackEdge a z to ys link x) e.1 h),
  )

-- ---- what goes in is a formal, and what comes back an exit
pub goes_to_formal : (pc : ℕ) (k j : Node) → GoesIn pc k j → is_formal j ≡ true
goes_to_formal pc k j (inl (i, e, f)) = ap is_formal f
goes_to_formal pc k j (inr (n, e, f)) = ap is_formal f

pub comes_from_exit : (pc : ℕ) (k j : Node) → ComesBack pc k j → is_exit k ≡ true
comes_from_exit pc k j (inl (e, f)) = ap is_exit e
comes_from_exit pc k j (inr (inl (e, f))) = ap is_exit e
comes_from_exit pc k j (inr (inr (n, e, f))) = ap is_exit e
