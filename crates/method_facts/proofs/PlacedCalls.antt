-- Calls that stand at statements.
use Rattle.std.proofs.Common.{◌≡◌, ◌<◌, ℕ, List, length, Option, Some, refl, sym, ap, subst, ◌∙◌}
use Rattle.std.specs.Prelude.{slice_get, All}
use Rattle.std.specs.declared.cmp.Ordering.TheVariants.{Equal}
use Rattle.std.proofs.lemmas.Cmp.{tied_itself}
use Rattle.slicer_ids.specs.declared.ids.CallId.{CallId}
use Rattle.slicer_ids.specs.declared.ids.Statement.{Statement}
use Rattle.dep_form.specs.declared.call_site.CallSite.{CallSite}
use Rattle.dep_form.specs.Orders.{statement_cmp}
use Rattle.dep_form.proofs.Searching.{all_at, one_statement, statement_total}
use Rattle.method_facts.specs.Calls.{ArePlaced, IsCallAt, place_of, statement_or_first}

module _ (calls : List CallSite) (are : ArePlaced calls) where
  -- what is found stands there
  pub stands : (t : Statement) (c : CallId) (k : CallSite) → slice_get calls c.0 ≡ Some k → statement_cmp (place_of k) t ≡ Equal → IsCallAt calls t c
  stands t c k at tied =
      let q = all_at (λ (k : CallSite). (t : Statement) × (k.place ≡ Some t)) calls are.placed c.0 k at in
      let here : place_of k ≡ q.0 = ap statement_or_first q.1 in
      let same : q.0 ≡ t = sym here ∙ one_statement (place_of k) t tied in
      (k, at, q.1 ∙ ap (λ z. Some z) same)

  -- what stands there compares equal
  pub ties : (t : Statement) (c : CallId) → (h : IsCallAt calls t c) → statement_cmp (place_of h.0) t ≡ Equal
  ties t c (k, at, e) = subst (λ z. statement_cmp z t ≡ Equal) (sym (ap statement_or_first e)) (tied_itself statement_total t)
