-- What calls that go outside write and read through their arguments.
use Rattle.std.proofs.Common.{◌≡◌, ◌↔◌, ◌⊎◌, ◌<◌, ℕ, Bool, true, false, List, length, Contains, Option, Some, None, inl, inr, refl, sym, ap, subst, ◌∙◌}
use Rattle.std.specs.Prelude.{slice_get, option_and_then}
use Rattle.std.proofs.lemmas.Option.{same_Some, slice_get_cases, slice_get_within}
use Rattle.slicer_ids.specs.declared.ids.CallId.{CallId}
use Rattle.slicer_ids.specs.declared.ids.FieldId.{FieldId}
use Rattle.slicer_ids.specs.declared.ids.MethodId.{MethodId}
use Rattle.slicer_ids.specs.declared.ids.SiteId.{SiteId}
use Rattle.slicer_ids.specs.declared.ids.Statement.{Statement}
use Rattle.worklists.specs.Growth.{FromOne}
use Rattle.worklists.proofs.Growing.{FromBelow}
use Rattle.dep_form.specs.declared.call_site.CallSite.{CallSite}
use Rattle.dep_form.specs.declared.effects.Location.{Location}
use Rattle.dep_form.specs.declared.effects.Location.TheVariants.{Cell}
use Rattle.dep_form.specs.declared.rules.OutsideRule.{OutsideRule}
use Rattle.dep_form.specs.declared.rules.SiteInfo.{SiteInfo}
use Rattle.dep_form.specs.declared.rules.Var.{Var}
use Rattle.dep_form.specs.declared.system.System.{System}
use Rattle.dep_form.specs.Constraints.{ArgumentHas, IsCallSite, IsElements, IsState, SystemHolds, elements_field, state_field}
use Rattle.dep_form.specs.Effects.{IsCallIn}
use Rattle.dep_form.specs.Outside.{IsReceiver}
use Rattle.dep_form.specs.PointsTo.{Has, OneMayBe, OutsideArgument, OutsideAt, Reached, Writes}
use Rattle.mod_ref.specs.Direct.{AtArgument, AtCall, AtCalls, AtNumber, AtReceiver, AtSite, IsNoOutsideCall, IsOutsideCall, Passed, cell, field_in, field_of}
use Rattle.mod_ref.specs.declared.effects.Effect.{Effect}
use Rattle.mod_ref.specs.declared.outside.OutsideCall.{OutsideCall}
use Rattle.mod_ref.proofs.Orders.{effect_is}

-- ---- the field of a site
module _ (s : System) (h : SiteId) (f : FieldId) where
  at_info : (e : Bool) (info : SiteInfo) → slice_get s.sites h.0 ≡ Some info → field_of s e h ≡ field_in s e info
  at_info e info at = ap (option_and_then (field_in s e)) at

  has_info : (e : Bool) → field_of s e h ≡ Some f → (info : SiteInfo) × (slice_get s.sites h.0 ≡ Some info) × (field_in s e info ≡ Some f)
  has_info e is = elim (slice_get_cases s.sites h.0).1 [
    | inl c ↦ (c.0, c.2, sym (at_info e c.0 c.2) ∙ is)
    | inr c ↦ absurd (cc (sym (ap (option_and_then (field_in s e)) c.1) ∙ is))
  ]

  elements_to : (info : SiteInfo) (b : Bool) → info.array ≡ b → slice_get s.sites h.0 ≡ Some info → field_in s true info ≡ Some f → IsElements s h f
  elements_to info true a at is = (info, at, a, sym (same_Some (elements_field s) f (rw a at is)))
  elements_to info false a at is = absurd (cc (rw a at is))

  elements_from : (info : SiteInfo) → slice_get s.sites h.0 ≡ Some info → info.array ≡ true → f ≡ elements_field s → (e : Bool) → field_of s e h ≡ Some f
  elements_from info at a is e = at_info e info at ∙ rw (a, is) refl

  pub elements_is : (field_of s true h ≡ Some f) ↔ IsElements s h f
  elements_is = (
    λ is. let i = has_info true is in elements_to i.0 i.0.array refl i.1 i.2,
    λ (info, at, a, is). elements_from info at a is true,
  )

  state_to : (info : SiteInfo) (b : Bool) → info.array ≡ b → slice_get s.sites h.0 ≡ Some info → field_in s false info ≡ Some f → IsState s h f
  state_to info true a at is = inl (info, at, a, sym (same_Some (elements_field s) f (rw a at is)))
  state_to info false a at is = inr (info, at, a, sym (same_Some (state_field s) f (rw a at is)))

  pub state_is : (field_of s false h ≡ Some f) ↔ IsState s h f
  state_is = (
    λ is. let i = has_info false is in state_to i.0 i.0.array refl i.1 i.2,
    λ st. elim st [
      | inl (info, at, a, is) ↦ elements_from info at a is false
      | inr (info, at, a, is) ↦ at_info false info at ∙ rw (a, is) refl
    ],
  )

pub no_field : (s : System) (e : Bool) (m : MethodId) (h : SiteId) (x : Effect) → field_of s e h ≡ None → AtSite s e m h x → ⊥
no_field s e m h x none (f, at, is) = cc (sym none ∙ at)

pub some_field : (s : System) (e : Bool) (m : MethodId) (h : SiteId) (f : FieldId) → field_of s e h ≡ Some f → (x : Effect) → (x ≡ cell h f m) ↔ AtSite s e m h x
some_field s e m h f at x = (λ is. (f, at, is), λ (g, other, is). is ∙ ap (λ (k : FieldId). cell h k m) (same_Some g f (sym other ∙ at)))

pub no_receiver : (s : System) (e : Bool) (m : MethodId) (o : Option SiteId) (x : Effect) → o ≡ None → AtReceiver s e m o x → ⊥
no_receiver s e m o x none (h, at, is) = cc (sym none ∙ at)

pub some_receiver : (s : System) (e : Bool) (m : MethodId) (o : Option SiteId) (h : SiteId) → o ≡ Some h → (x : Effect) → AtSite s e m h x ↔ AtReceiver s e m o x
some_receiver s e m o h at x = (λ is. (h, at, is), λ (g, other, is). subst (λ k. AtSite s e m k x) (same_Some g h (sym other ∙ at)) is)

-- ---- one argument
module _ (s : System) (e : Bool) (call : OutsideCall) (i : ℕ) (x : Effect) where
  pub by_receivers : (receivers : List (Option SiteId)) → IsReceiver call.site.now.instance i
      → ((o : Option SiteId) → Contains receivers o ↔ SystemHolds s (OutsideAt call.number o))
      → FromOne (AtReceiver s e call.place.method) receivers x ↔ AtArgument s e call i x
  by_receivers receivers r is = (
    λ (o, c, (h, at, here)). (h, inl (r, subst (λ p. SystemHolds s (OutsideAt call.number p)) at ((is o).0 c)), here),
    λ (h, may, here). elim may [ inl (q, k) ↦ (Some h, (is (Some h)).1 k, (h, refl, here)) | inr m ↦ absurd (m.0 r) ],
  )

  pub by_variable : (v : Var) (sites : List SiteId) → (IsReceiver call.site.now.instance i → ⊥) → ((o : Option SiteId) × SystemHolds s (OutsideAt call.number o))
      → slice_get call.site.now.arguments i ≡ Some v → ((h : SiteId) → Contains sites h ↔ SystemHolds s (Has v h))
      → FromOne (AtSite s e call.place.method) sites x ↔ AtArgument s e call i x
  by_variable v sites n gone at is = (
    λ (h, c, here). (h, inr (n, gone, (v, at, (is h).0 c)), here),
    λ (h, may, here). elim may [
      | inl (q, k) ↦ absurd (n q)
      | inr m ↦ (h, (is h).1 (subst (λ b. SystemHolds s (Has b h)) (same_Some m.2.0 v (sym m.2.1 ∙ at)) m.2.2), here)
    ],
  )

-- ---- all of some arguments
module _ (s : System) (call : OutsideCall) where
  abbrev MayBe : List ℕ → SiteId → Type 0
  MayBe is b = OneMayBe (SystemHolds s) call.number call.site.now.instance call.rule.now (ArgumentHas s (SystemHolds s) call.site.now) (IsState s) is b

  abbrev Through : Bool → List ℕ → Effect → Type 0
  Through e is x = (x.method ≡ call.place.method) × ((b : SiteId) × (f : FieldId) × (x.location ≡ Cell b f) × MayBe is b × (field_of s e b ≡ Some f))

  through : (e : Bool) (is : List ℕ) (x : Effect) → FromOne (AtArgument s e call) is x ↔ Through e is x
  through e is x = (
    λ (i, c, (h, may, (f, at, here))). (ap (λ (y : Effect). y.method) here, (h, f, ap (λ (y : Effect). y.location) here, (i, c, may), at)),
    λ (m, (b, f, l, (i, c, may), at)). (i, c, (b, may, (f, at, effect_is x (cell b f call.place.method) l m))),
  )

  pub written_is : (x : Effect) → (FromOne (AtArgument s false call) call.rule.now.states x ⊎ FromOne (AtArgument s true call) call.rule.now.arrays x) ↔ AtCall s true call x
  written_is x = (
    λ h. elim h [
      | inl a ↦ let t = (through false call.rule.now.states x).0 a in (t.0, (t.1.0, t.1.1, t.1.2, inl (t.1.3, (state_is s t.1.0 t.1.1).0 t.1.4)))
      | inr a ↦ let t = (through true call.rule.now.arrays x).0 a in (t.0, (t.1.0, t.1.1, t.1.2, inr (t.1.3, (elements_is s t.1.0 t.1.1).0 t.1.4)))
    ],
    λ (m, (b, f, l, w)). elim w [
      | inl (may, st) ↦ inl ((through false call.rule.now.states x).1 (m, (b, f, l, may, (state_is s b f).1 st)))
      | inr (may, el) ↦ inr ((through true call.rule.now.arrays x).1 (m, (b, f, l, may, (elements_is s b f).1 el)))
    ],
  )

  pub read_is : (x : Effect) → (FromOne (AtArgument s false call) call.rule.now.reads x ⊎ FromOne (AtArgument s false call) call.rule.now.written x) ↔ AtCall s false call x
  read_is x = (
    λ h. elim h [
      | inl a ↦ let t = (through false call.rule.now.reads x).0 a in (t.0, (t.1.0, t.1.1, t.1.2, inl (t.1.3, (state_is s t.1.0 t.1.1).0 t.1.4)))
      | inr a ↦ let t = (through false call.rule.now.written x).0 a in (t.0, (t.1.0, t.1.1, t.1.2, inr (t.1.3, (state_is s t.1.0 t.1.1).0 t.1.4)))
    ],
    λ (m, (b, f, l, w)). elim w [
      | inl (may, st) ↦ inl ((through false call.rule.now.reads x).1 (m, (b, f, l, may, (state_is s b f).1 st)))
      | inr (may, st) ↦ inr ((through false call.rule.now.written x).1 (m, (b, f, l, may, (state_is s b f).1 st)))
    ],
  )

-- ---- calls by their numbers
-- a call that writes or reads outside goes outside
may_gone : (s : System) (c : CallId) (k : CallSite) (r : OutsideRule) (is : List ℕ) (b : SiteId) → OneMayBe (SystemHolds s) c k.instance r (ArgumentHas s (SystemHolds s) k) (IsState s) is b
    → (o : Option SiteId) × SystemHolds s (OutsideAt c o)
may_gone s c k r is b (i, there, may) = elim may [ inl q ↦ (Some b, q.1) | inr q ↦ q.1 ]

passed_gone : (s : System) (write : Bool) (c : CallId) (k : CallSite) (r : OutsideRule) (l : Location) → Passed s write c k r l → (o : Option SiteId) × SystemHolds s (OutsideAt c o)
passed_gone s true c k r l (b, f, e, w) = elim w [ inl p ↦ may_gone s c k r r.states b p.0 | inr p ↦ may_gone s c k r r.arrays b p.0 ]
passed_gone s false c k r l (b, f, e, w) = elim w [ inl p ↦ may_gone s c k r r.reads b p.0 | inr p ↦ may_gone s c k r r.written b p.0 ]

pub no_number : (s : System) (write : Bool) (c : CallId) → IsNoOutsideCall s c → (x : Effect) → AtNumber s write c.0 x → ⊥
no_number s write c none x (reached, (k, r, (site, rule, (t, place, m)), passed)) =
    let gone = passed_gone s write c k r x.location passed in
    none k t gone.0 site place (subst (λ n. SystemHolds s (Reached n)) (sym m) reached) gone.1

pub number_is : (s : System) (write : Bool) (c : CallId) (call : OutsideCall) → IsOutsideCall s call → call.number ≡ c → (x : Effect) → AtCall s write call x ↔ AtNumber s write c.0 x
number_is s write c call is number x = (to, from)
  where
    site : IsCallSite s c call.site.now
    site = subst (λ n. IsCallSite s n call.site.now) number is.site

    rule : slice_get s.outside_rules c.0 ≡ Some call.rule.now
    rule = subst (λ (n : CallId). slice_get s.outside_rules n.0 ≡ Some call.rule.now) number is.rule

    to : AtCall s write call x → AtNumber s write c.0 x
    to (m, passed) = (
      subst (λ n. SystemHolds s (Reached n)) (sym m) is.reached,
      (call.site.now, call.rule.now, (site, rule, (call.place, is.place, sym m)), subst (λ n. Passed s write n call.site.now call.rule.now x.location) number passed),
    )

    from : AtNumber s write c.0 x → AtCall s write call x
    from (reached, (k, r, (at, by, (t, place, m)), passed)) =
        let same_site : k ≡ call.site.now = same_Some k call.site.now (sym at ∙ site) in
        let same_rule : r ≡ call.rule.now = same_Some r call.rule.now (sym by ∙ rule) in
        let same_place : t ≡ call.place = same_Some t call.place (sym place ∙ ap (λ (y : CallSite). y.place) same_site ∙ is.place) in (
          sym m ∙ ap (λ (y : Statement). y.method) same_place,
          subst (λ n. Passed s write n call.site.now call.rule.now x.location) (sym number) (subst (λ (y : OutsideRule). Passed s write c call.site.now y x.location) same_rule (subst (λ (y : CallSite). Passed s write c y r x.location) same_site passed)),
        )

pub calls_is : (s : System) (write : Bool) (x : Effect) → FromBelow (AtNumber s write) (length s.calls) x ↔ AtCalls s write x
calls_is s write x = (
  λ (n, lt, (reached, (k, r, is, passed))). (reached, (record { 0 = n }, k, r, is, passed)),
  λ (reached, (c, k, r, is, passed)). (c.0, slice_get_within s.calls c.0 k is.0, (reached, (k, r, is, passed))),
)
