-- Arrays that calls answer from outside, made afresh.
use Rattle.std.proofs.Common.{◌≡◌, ◌↔◌, ◌⊎◌, ◌<◌, ◌≤◌, ℕ, Bool, true, List, length, Contains, Option, Some, None, inl, inr, refl, sym, ap, subst, ◌∙◌, arith}
use Rattle.std.specs.Prelude.{slice_get}
use Rattle.std.proofs.lemmas.Option.{same_Some, slice_get_cases, slice_get_within}
use Rattle.slicer_ids.specs.declared.ids.CallId.{CallId}
use Rattle.slicer_ids.specs.declared.ids.SiteId.{SiteId}
use Rattle.slicer_ids.specs.declared.ids.Statement.{Statement}
use Rattle.worklists.proofs.Growing.{FromBelow}
use Rattle.dep_form.specs.declared.call_site.CallSite.{CallSite}
use Rattle.dep_form.specs.declared.effects.Location.{Location}
use Rattle.dep_form.specs.declared.effects.Location.TheVariants.{Cell}
use Rattle.dep_form.specs.declared.rules.OutsideRule.{OutsideRule}
use Rattle.dep_form.specs.declared.system.System.{System}
use Rattle.dep_form.specs.Constraints.{IsCallSite, SystemHolds, elements_field, length_field}
use Rattle.dep_form.specs.PointsTo.{OutsideAt, Reached}
use Rattle.mod_ref.specs.Direct.{AtArray, AtFresh, AtIndex, IsFreshAt, IsFreshPlace, IsNoOutsideCall, IsOutsideCall, cell}
use Rattle.mod_ref.specs.declared.effects.Effect.{Effect}
use Rattle.mod_ref.specs.declared.outside.OutsideCall.{OutsideCall}
use Rattle.mod_ref.proofs.Orders.{effect_is}

pub no_fresh : (s : System) (c : CallId) (t : Statement) → IsNoOutsideCall s c → IsFreshAt s c t → ⊥
no_fresh s c t none (k, o, first, site, place, reached, gone, fresh) = none k t o site place reached gone

pub fresh_is : (s : System) (c : CallId) (call : OutsideCall) → IsOutsideCall s call → call.number ≡ c → (t : Statement)
    → ((call.place ≡ t) × ((first : SiteId) × (call.site.now.fresh ≡ Some first))) ↔ IsFreshAt s c t
fresh_is s c call is number t = (to, from)
  where
    site : IsCallSite s c call.site.now
    site = subst (λ n. IsCallSite s n call.site.now) number is.site

    to : ((call.place ≡ t) × ((first : SiteId) × (call.site.now.fresh ≡ Some first))) → IsFreshAt s c t
    to (p, (first, fresh)) = (
      call.site.now,
      is.gone.0,
      first,
      site,
      is.place ∙ ap (λ (y : Statement). Some y) p,
      subst (λ (y : Statement). SystemHolds s (Reached y.method)) p is.reached,
      subst (λ n. SystemHolds s (OutsideAt n is.gone.0)) number is.gone.1,
      fresh,
    )

    from : IsFreshAt s c t → (call.place ≡ t) × ((first : SiteId) × (call.site.now.fresh ≡ Some first))
    from (k, o, first, at, place, reached, gone, fresh) =
        let same : k ≡ call.site.now = same_Some k call.site.now (sym at ∙ site) in
        (same_Some call.place t (sym is.place ∙ ap (λ (y : CallSite). y.place) (sym same) ∙ place), (first, ap (λ (y : CallSite). y.fresh) (sym same) ∙ fresh))

pub places_is : (s : System) (t : Statement) → FromBelow (λ n t. IsFreshAt s (record { 0 = n }) t) (length s.calls) t ↔ IsFreshPlace s t
places_is s t = (
  λ (n, lt, is). (record { 0 = n }, is),
  λ (c, is). (c.0, slice_get_within s.calls c.0 is.0 is.3, is),
)

-- each call has a rule
rule_at : (s : System) (c : CallId) (k : CallSite) → IsCallSite s c k → (r : OutsideRule) × (slice_get s.outside_rules c.0 ≡ Some r)
rule_at s c k at = elim (slice_get_cases s.outside_rules c.0).1 [
  | inl h ↦ (h.0, h.2)
  | inr h ↦ absurd (omega (arith, h.0, slice_get_within s.calls c.0 k at, s.rule_each))
]

module _ (s : System) (places : List Statement) (listed : (t : Statement) → Contains places t ↔ IsFreshPlace s t) (x : Effect) where
  array_to : (h : SiteId) (t : Statement) → AtArray s h t.method x → (x.method ≡ t.method) × ((x.location ≡ Cell h (length_field s)) ⊎ (x.location ≡ Cell h (elements_field s)))
  array_to h t (inl e) = (ap (λ (y : Effect). y.method) e, inl (ap (λ (y : Effect). y.location) e))
  array_to h t (inr e) = (ap (λ (y : Effect). y.method) e, inr (ap (λ (y : Effect). y.location) e))

  array_from : (h : SiteId) (t : Statement) → x.method ≡ t.method → (x.location ≡ Cell h (length_field s)) ⊎ (x.location ≡ Cell h (elements_field s)) → AtArray s h t.method x
  array_from h t m (inl l) = inl (effect_is x (cell h (length_field s) t.method) l m)
  array_from h t m (inr l) = inr (effect_is x (cell h (elements_field s) t.method) l m)

  to : FromBelow (AtIndex s places) (length s.sites) x → AtFresh s x
  to (n, lt, (info, at, (t, array, place, there, a))) =
      let p = (listed t).0 there in
      let k = p.1.0 in
      let b = array_to (record { 0 = n }) t a in
      let r = rule_at s p.0 k p.1.3 in (
        subst (λ m. SystemHolds s (Reached m)) (sym b.0) p.1.5,
        (p.0, k, r.0, (p.1.3, r.1, (t, p.1.4, sym b.0)), (p.1.1, p.1.2, record { 0 = n }, info, p.1.6, p.1.7, at, place ∙ sym p.1.4, array, b.1)),
      )

  from : AtFresh s x → FromBelow (AtIndex s places) (length s.sites) x
  from (reached, (c, k, r, (site, rule, (t, place, m)), (o, first, h, info, gone, fresh, at, same, array, l))) =
      (h.0, slice_get_within s.sites h.0 info at, (info, at, (t, array, same ∙ place, (listed t).1 (c, (k, o, first, site, place, subst (λ n. SystemHolds s (Reached n)) (sym m) reached, gone, fresh)), array_from h t (sym m) l)))

  pub freshes_is : FromBelow (AtIndex s places) (length s.sites) x ↔ AtFresh s x
  freshes_is = (to, from)
