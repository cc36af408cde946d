-- The calls of a program, as they are gathered.
use Rattle.std.proofs.Common.{◌≡◌, ◌⊎◌, ◌↔◌, ◌<◌, ◌+◌, ℕ, Bool, List, [], Contains, Option, Some, None, length, inl, inr, refl, sym, ap, subst, ◌∙◌, arith}
use Rattle.std.specs.Prelude.{slice_get}
use Rattle.std.proofs.lemmas.Option.{same_Some, slice_get_within}
use Rattle.slicer_ids.specs.declared.ids.CallId.{CallId}
use Rattle.slicer_ids.specs.declared.ids.MethodId.{MethodId}
use Rattle.slicer_ids.specs.declared.ids.Statement.{Statement}
use Rattle.dep_form.specs.declared.call_site.CallSite.{CallSite}
use Rattle.dep_form.specs.declared.system.System.{System}
use Rattle.dep_form.specs.Constraints.{IsCallSite, SystemHolds}
use Rattle.dep_form.specs.Orders.{RiseBy}
use Rattle.dep_form.specs.PointsTo.{Calls}
use Rattle.program_form.specs.Nodes.{at}
use Rattle.fact_form.specs.EdgeNumbers.{IsCallNumber, statement, entry_call}
use Rattle.fact_form.specs.EntryCalls.{root_of}
use Rattle.worklists.specs.Growth.{FromOne}
use Rattle.worklists.proofs.Growing.{FromBelow}
use Rattle.mod_ref.specs.Gains.{Gains}
use Rattle.mod_ref.proofs.Gaining.{gained, gains_both}
use Rattle.edge_tables.specs.declared.links.Link.{Link}
use Rattle.edge_tables.specs.Links.{AreLinks, IsAnyLink, IsCallLink, IsEntryLink, IsLinkTo, link_cmp, link_of}

module _ (b : Bool) (s : System) where
  -- the call of a number
  pub call_link : (c : CallId) (k : CallSite) (place : Statement) → IsCallSite s c k → k.place ≡ Some place → (targets : List MethodId) → ((t : MethodId) → Contains targets t ↔ SystemHolds s (Calls c t)) → (x : Link)
      → FromOne (IsLinkTo b c place) targets x ↔ IsCallLink b s c.0 x
  call_link c k place site there targets is x = (
    λ (t, among, e). (k, place, t, site, there, (is t).0 among, e),
    λ (l, q, t, other, here, calls, e).
        let same : l ≡ k = same_Some l k (sym other ∙ site) in
        let one' : q ≡ place = same_Some q place (sym here ∙ ap (λ (z : CallSite). z.place) same ∙ there) in
        (t, (is t).1 calls, subst (λ (z : Statement). IsLinkTo b c z t x) one' e),
  )

  pub no_link : (c : CallId) (k : CallSite) → IsCallSite s c k → k.place ≡ None → (x : Link) → IsCallLink b s c.0 x → ⊥
  no_link c k site none x (l, q, t, other, here, calls, e) =
      let same : l ≡ k = same_Some l k (sym other ∙ site) in
      cc (sym none ∙ ap (λ (z : CallSite). z.place) (sym same) ∙ here)

  module _ (entries : List MethodId) where
    pub entry_link : (n : ℕ) (t : MethodId) → slice_get entries n ≡ Some t → (x : Link) → IsLinkTo b (record { 0 = length s.calls + n }) (record { method = root_of s; pc = n }) t x ↔ IsEntryLink b s entries n x
    entry_link n t at x = (
      λ e. (t, at, e),
      λ (u, there, e). subst (λ (z : MethodId). IsLinkTo b (record { 0 = length s.calls + n }) (record { method = root_of s; pc = n }) z x) (same_Some u t (sym there ∙ at)) e,
    )

    -- all of them
    to_any : (x : Link) → FromBelow (IsCallLink b s) (length s.calls) x ⊎ FromBelow (IsEntryLink b s entries) (length entries) x → IsAnyLink b s entries x
    to_any x (inl (n, lt, (k, place, t, site, there, calls, e))) = (record { 0 = n }, place.method, place.pc, t, statement (site, there) calls, e)
    to_any x (inr (n, lt, (t, there, e))) = (record { 0 = length s.calls + n }, root_of s, n, t, entry_call refl there refl, e)

    from_any : (x : Link) (c : CallId) (m : MethodId) (pc : ℕ) (t : MethodId) → IsCallNumber s entries c m pc t → x ≡ link_of b c m pc t → FromBelow (IsCallLink b s) (length s.calls) x ⊎ FromBelow (IsEntryLink b s entries) (length entries) x
    from_any x c m pc t (statement {k = k} (site, there) calls) e = inl (c.0, slice_get_within s.calls c.0 k site, (k, at m pc, t, site, there, calls, e))
    from_any x c m pc t (entry_call {n = n} root there number) e =
        let same : m ≡ root_of s = ap (λ (i : ℕ). record { 0 = i }) root in
        let first : c ≡ record { 0 = length s.calls + n } = ap (λ (i : ℕ). record { 0 = i }) number in
        inr (n, slice_get_within entries n t there, (t, there, subst (λ (z : MethodId). x ≡ link_of b (record { 0 = length s.calls + n }) z n t) same (subst (λ (z : CallId). x ≡ link_of b z m n t) first e)))

    pub links_are : (start one two all : List Link) → start ≡ [] → Gains start one (FromBelow (IsCallLink b s) (length s.calls)) → Gains one two (FromBelow (IsEntryLink b s entries) (length entries))
        → RiseBy link_cmp (λ x. x) all → ((x : Link) → Contains all x ↔ Contains two x) → AreLinks b s entries all
    links_are start one two all nil g h order is = record {
      order = order;
      members = λ x.
          let w = gained start two (λ z. FromBelow (IsCallLink b s) (length s.calls) z ⊎ FromBelow (IsEntryLink b s entries) (length entries) z) nil (gains_both start one two (FromBelow (IsCallLink b s) (length s.calls)) (FromBelow (IsEntryLink b s entries) (length entries)) g h) x in (
            λ c. to_any x (w.0 ((is x).0 c)),
            λ (c, m, pc, t, number, e). (is x).1 (w.1 (from_any x c m pc t number e)),
          );
    }
