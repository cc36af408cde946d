-- The edges of calls that go outside, as they are gathered.
use Rattle.std.proofs.Common.{◌≡◌, ◌⊎◌, ◌↔◌, ℕ, List, Contains, Option, Some, refl, sym, ap, subst, ◌∙◌, inl, inr}
use Rattle.std.specs.Prelude.{slice_get}
use Rattle.std.proofs.lemmas.Option.{same_Some}
use Rattle.slicer_ids.specs.declared.ids.CallId.{CallId}
use Rattle.slicer_ids.specs.declared.ids.MethodId.{MethodId}
use Rattle.slicer_ids.specs.declared.ids.Statement.{Statement}
use Rattle.dep_form.specs.declared.node.Edge.{Edge}
use Rattle.dep_form.specs.declared.node.Node.{Node}
use Rattle.dep_form.specs.declared.node.Node.TheVariants.{Argument}
use Rattle.dep_form.specs.declared.rules.OutsideRule.{OutsideRule}
use Rattle.dep_form.specs.declared.system.System.{System}
use Rattle.method_facts.specs.Calls.{ArePlaced, IsCallAt}
use Rattle.node_tables.proofs.Calls.{one_call}
use Rattle.edge_tables.specs.Outside.{IsArgumentEdge, IsCallEdge, IsGone, IsOutsideEdge, IsStatementEdge}

module _ (first : ℕ) (nodes : List Node) (s : System) where
  pub call_is : (c : CallId) (pc i : ℕ) → IsGone s c → (r : OutsideRule) → slice_get s.outside_rules c.0 ≡ Some r → (written : List ℕ) → written ≡ r.written → (x : Edge) → IsArgumentEdge first nodes written pc i x ↔ IsCallEdge first nodes s c pc i x
  call_is c pc i gone r at written e x = (
    λ h. (gone, r, at, subst (λ (ws : List ℕ). IsArgumentEdge first nodes ws pc i x) e h),
    λ (g, q, there, h). subst (λ (ws : List ℕ). IsArgumentEdge first nodes ws pc i x) (sym e) (subst (λ (z : OutsideRule). IsArgumentEdge first nodes z.written pc i x) (same_Some q r (sym there ∙ at)) h),
  )

  pub statement_is : (t : Statement) (i : ℕ) → ArePlaced s.calls → (c : CallId) → IsCallAt s.calls t c → (x : Edge) → IsCallEdge first nodes s c t.pc i x ↔ IsStatementEdge first nodes s t i x
  statement_is t i placed c at x = (
    λ h. (c, at, h),
    λ (d, there, h). subst (λ (z : CallId). IsCallEdge first nodes s z t.pc i x) (one_call s.calls placed t d c there at) h,
  )

  pub node_is : (m : MethodId) (k : Node) (pc i : ℕ) (o : Option (ℕ × ℕ)) → ((a b : ℕ) → (o ≡ Some (a, b)) ↔ (k ≡ Argument a b)) → o ≡ Some (pc, i) → (x : Edge) → IsStatementEdge first nodes s (record { method = m; pc = pc }) i x ↔ IsOutsideEdge first nodes s m k x
  node_is m k pc i o is at x = (
    λ h. (pc, i, (is pc i).0 at, h),
    λ (a, b, e, h). subst (λ (z : ℕ × ℕ). IsStatementEdge first nodes s (record { method = m; pc = z.0 }) z.1 x) (same_Some (a, b) (pc, i) (sym ((is a b).1 e) ∙ at)) h,
  )
