-- Effects that were gathered part by part.
use Rattle.std.proofs.Common.{◌≡◌, ◌⊎◌, ◌↔◌, ◌<◌, ℕ, Bool, true, false, List, [], length, Contains, Option, Some, None, Result, Ok, Err, OnOk, inl, inr, refl, sym, ap, subst, ◌∙◌}
use Rattle.std.specs.Prelude.{slice_get}
use Rattle.std.proofs.lemmas.Option.{same_Some, slice_get_within}
use Rattle.slicer_ids.specs.declared.ids.CallId.{CallId}
use Rattle.slicer_ids.specs.declared.ids.FieldId.{FieldId}
use Rattle.slicer_ids.specs.declared.ids.LocId.{LocId}
use Rattle.slicer_ids.specs.declared.ids.SiteId.{SiteId}
use Rattle.slicer_ids.specs.declared.ids.Statement.{Statement}
use Rattle.dep_form.specs.declared.call_site.CallSite.{CallSite}
use Rattle.dep_form.specs.declared.effects.Location.{Location}
use Rattle.dep_form.specs.declared.effects.Location.TheVariants.{Cell, Static as StaticOf}
use Rattle.dep_form.specs.declared.effects.ModRef.{ModRef}
use Rattle.dep_form.specs.declared.rules.OutsideRule.{OutsideRule}
use Rattle.dep_form.specs.declared.rules.SiteInfo.{SiteInfo}
use Rattle.dep_form.specs.declared.rules.Spot.{Spot}
use Rattle.dep_form.specs.declared.rules.Spot.TheVariants.{Field, Made, Static}
use Rattle.dep_form.specs.declared.rules.Var.{Var}
use Rattle.dep_form.specs.declared.system.System.{System}
use Rattle.dep_form.specs.Constraints.{IsCallSite, SystemHolds}
use Rattle.dep_form.specs.Effects.{IsSpotAt, field, made, static}
use Rattle.dep_form.specs.Orders.{RiseBy}
use Rattle.dep_form.specs.Outside.{IsReceiver}
use Rattle.dep_form.specs.PointsTo.{Has, OutsideAt}
use Rattle.fact_form.specs.EffectNumbers.{IsLocation}
use Rattle.mod_ref.specs.Direct.{field_of}
use Rattle.mod_ref.specs.Gains.{Gains}
use Rattle.mod_ref.proofs.Gaining.{gained, gains_both}
use Rattle.method_facts.specs.Calls.{IsCallAt}
use Rattle.worklists.specs.Growth.{FromOne}
use Rattle.node_tables.proofs.Calls.{one_call}
use Rattle.method_facts.specs.Calls.{ArePlaced}
use Rattle.input_tables.specs.declared.effects.Effect.{Effect}
use Rattle.input_tables.specs.declared.outside.Way.{Way}
use Rattle.input_tables.specs.Effects.{AreEffects, AtArgument, AtCall, AtCallOf, AtCell, AtFresh, AtInfo, AtLocation, AtNumber, AtPlace, AtReceiver, AtSite, AtSpot, AtVariable, IsOutside, call_of, effect, effect_cmp}

-- ---- numbers of locations
pub number_found : (mr : ModRef) (t : Statement) (l : Location) (o : Option LocId) (n : LocId) → ((k : LocId) → (o ≡ Some k) ↔ (slice_get mr.locations k.0 ≡ Some l)) → o ≡ Some n → (x : Effect) → (x ≡ effect t n) ↔ AtLocation mr t l x
number_found mr t l o n is found x = (λ e. (n, (is n).0 found, e), λ (k, at, e). e ∙ ap (effect t) (same_Some k n (sym ((is k).1 at) ∙ found)))

pub number_missing : (mr : ModRef) (t : Statement) (l : Location) (o : Option LocId) → ((k : LocId) → (o ≡ Some k) ↔ (slice_get mr.locations k.0 ≡ Some l)) → o ≡ None → (x : Effect) → AtLocation mr t l x → ⊥
number_missing mr t l o is none x (k, at, e) = cc (sym none ∙ (is k).1 at)

-- ---- touches
module _ (s : System) (mr : ModRef) (t : Statement) where
  pub variable_is : (f : FieldId) (v : Var) (sites : List SiteId) → ((h : SiteId) → Contains sites h ↔ SystemHolds s (Has v h)) → (x : Effect) → FromOne (AtCell mr f t) sites x ↔ AtVariable s mr f t v x
  variable_is f v sites is x = (λ (h, c, a). (h, (is h).0 c, a), λ (h, k, a). (h, (is h).1 k, a))

  field_from : (vs : List Var) (f : FieldId) (l : Location) (x : Effect) → IsSpotAt s (Field vs f) l → AtLocation mr t l x → FromOne (AtVariable s mr f t) vs x
  field_from vs f l x (field {v = v} {h = h} c k) a = (v, c, (h, k, a))

  pub field_is : (vs : List Var) (f : FieldId) (x : Effect) → FromOne (AtVariable s mr f t) vs x ↔ AtSpot s mr t (Field vs f) x
  field_is vs f x = (λ (v, c, (h, k, a)). (Cell h f, field c k, a), λ (l, at, a). field_from vs f l x at a)

  made_from : (h : SiteId) (f : FieldId) (l : Location) (x : Effect) → IsSpotAt s (Made h f) l → AtLocation mr t l x → AtLocation mr t (Cell h f) x
  made_from h f l x made a = a

  pub made_is : (h : SiteId) (f : FieldId) (x : Effect) → AtLocation mr t (Cell h f) x ↔ AtSpot s mr t (Made h f) x
  made_is h f x = (λ a. (Cell h f, made, a), λ (l, at, a). made_from h f l x at a)

  static_from : (v : Var) (l : Location) (x : Effect) → IsSpotAt s (Static v) l → AtLocation mr t l x → AtLocation mr t (StaticOf v) x
  static_from v l x static a = a

  pub static_is : (v : Var) (x : Effect) → AtLocation mr t (StaticOf v) x ↔ AtSpot s mr t (Static v) x
  static_is v x = (λ a. (StaticOf v, static, a), λ (l, at, a). static_from v l x at a)

  -- ---- the field of a site
  pub no_field : (e : Bool) (h : SiteId) (x : Effect) → field_of s e h ≡ None → AtSite s mr e t h x → ⊥
  no_field e h x none (f, at, a) = cc (sym none ∙ at)

  pub some_field : (e : Bool) (h : SiteId) (f : FieldId) → field_of s e h ≡ Some f → (x : Effect) → AtLocation mr t (Cell h f) x ↔ AtSite s mr e t h x
  some_field e h f at x = (λ a. (f, at, a), λ (g, other, a). subst (λ k. AtLocation mr t (Cell h k) x) (same_Some g f (sym other ∙ at)) a)

  pub no_receiver : (e : Bool) (o : Option SiteId) (x : Effect) → o ≡ None → AtReceiver s mr e t o x → ⊥
  no_receiver e o x none (h, at, a) = cc (sym none ∙ at)

  pub some_receiver : (e : Bool) (o : Option SiteId) (h : SiteId) → o ≡ Some h → (x : Effect) → AtSite s mr e t h x ↔ AtReceiver s mr e t o x
  some_receiver e o h at x = (λ a. (h, at, a), λ (g, other, a). subst (λ k. AtSite s mr e t k x) (same_Some g h (sym other ∙ at)) a)

-- ---- one argument
module _ (s : System) (mr : ModRef) (e : Bool) (c : CallId) (k : CallSite) (r : OutsideRule) (t : Statement) (i : ℕ) (x : Effect) where
  pub by_receivers : (receivers : List (Option SiteId)) → IsReceiver k.instance i → ((o : Option SiteId) → Contains receivers o ↔ SystemHolds s (OutsideAt c o))
      → FromOne (AtReceiver s mr e t) receivers x ↔ AtArgument s mr e c k r t i x
  by_receivers receivers q is = (
    λ (o, there, (h, at, here)). (h, inl (q, subst (λ p. SystemHolds s (OutsideAt c p)) at ((is o).0 there)), here),
    λ (h, may, here). elim may [ inl (q', g) ↦ (Some h, (is (Some h)).1 g, (h, refl, here)) | inr m ↦ absurd (m.0 q) ],
  )

  pub by_variable : (v : Var) (sites : List SiteId) → (IsReceiver k.instance i → ⊥) → ((o : Option SiteId) × SystemHolds s (OutsideAt c o)) → slice_get k.arguments i ≡ Some v
      → ((h : SiteId) → Contains sites h ↔ SystemHolds s (Has v h)) → FromOne (AtSite s mr e t) sites x ↔ AtArgument s mr e c k r t i x
  by_variable v sites n gone at is = (
    λ (h, there, here). (h, inr (n, gone, (v, at, (is h).0 there)), here),
    λ (h, may, here). elim may [
      | inl (q, g) ↦ absurd (n q)
      | inr m ↦ (h, (is h).1 (subst (λ b. SystemHolds s (Has b h)) (same_Some m.2.0 v (sym m.2.1 ∙ at)) m.2.2), here)
    ],
  )

-- ---- calls by their numbers
module _ (s : System) (mr : ModRef) (way : Way) (c : CallId) where
  pub no_number : ((k : CallSite) (r : OutsideRule) (t : Statement) → IsOutside s c k r t → ⊥) → (x : Effect) → AtNumber s mr way c.0 x → ⊥
  no_number none x (k, r, t, is, a) = none k r t is

  pub number_is : (d : CallId) (k : CallSite) (r : OutsideRule) (t : Statement) → IsOutside s c k r t → d ≡ c → (x : Effect) → AtCall s mr way d k r t x ↔ AtNumber s mr way c.0 x
  number_is d k r t is same x = (
    λ a. (k, r, t, is, subst (λ (n : CallId). AtCall s mr way n k r t x) same a),
    λ (l, q, u, other, a).
        let site : l ≡ k = same_Some l k (sym other.site ∙ is.site) in
        let rule : q ≡ r = same_Some q r (sym other.rule ∙ is.rule) in
        let place : u ≡ t = same_Some u t (sym other.place ∙ ap (λ (y : CallSite). y.place) site ∙ is.place) in
        subst (λ (n : CallId). AtCall s mr way n k r t x) (sym same)
        (subst (λ (y : CallSite). AtCall s mr way c y r t x) site (subst (λ (y : OutsideRule). AtCall s mr way c l y t x) rule (subst (λ (y : Statement). AtCall s mr way c l q y x) place a))),
  )

-- ---- arrays made afresh
module _ (s : System) (mr : ModRef) (h : SiteId) where
  pub place_is : ArePlaced s.calls → (t : Statement) (c : CallId) → IsCallAt s.calls t c → (x : Effect) → AtCallOf s mr c h t x ↔ AtPlace s mr h t x
  place_is placed t c at x = (λ a. (c, at, a), λ (d, there, a). subst (λ (n : CallId). AtCallOf s mr n h t x) (one_call s.calls placed t d c there at) a)

  pub info_is : (info : SiteInfo) (o : Option Statement) (t : Statement) → ((u : Statement) → (o ≡ Some u) ↔ ((info.array ≡ true) × (info.place ≡ Some u))) → o ≡ Some t → (x : Effect) → AtPlace s mr h t x ↔ AtInfo s mr h info x
  info_is info o t is found x = (
    λ a. let w = (is t).0 found in (t, w.0, w.1, a),
    λ (u, array, place, a). subst (λ (y : Statement). AtPlace s mr h y x) (same_Some u t (sym ((is u).1 (array, place)) ∙ found)) a,
  )

  pub no_info : (info : SiteInfo) (o : Option Statement) → ((u : Statement) → (o ≡ Some u) ↔ ((info.array ≡ true) × (info.place ≡ Some u))) → o ≡ None → (x : Effect) → AtInfo s mr h info x → ⊥
  no_info info o is none x (u, array, place, a) = cc (sym none ∙ (is u).1 (array, place))

  pub fresh_is : (info : SiteInfo) → slice_get s.sites h.0 ≡ Some info → (x : Effect) → AtInfo s mr h info x ↔ AtFresh s mr h.0 x
  fresh_is info at x = (λ a. (info, at, a), λ (other, there, a). subst (λ (y : SiteInfo). AtInfo s mr h y x) (same_Some other info (sym there ∙ at)) a)

-- ---- all of them
pub collected : (P : Effect → Type 0) (start new all : List Effect) → start ≡ [] → Gains start new P → RiseBy effect_cmp (λ x. x) all → ((x : Effect) → Contains all x ↔ Contains new x) → AreEffects P all
collected P start new all nil g order is = record {
  order = order;
  members = λ x. let w = gained start new P nil g x in (λ c. w.0 ((is x).0 c), λ h. (is x).1 (w.1 h));
}

pub both_collected : (P Q : Effect → Type 0) (start mid new all : List Effect) → start ≡ [] → Gains start mid P → Gains mid new Q → RiseBy effect_cmp (λ x. x) all → ((x : Effect) → Contains all x ↔ Contains new x)
    → AreEffects (λ x. P x ⊎ Q x) all
both_collected P Q start mid new all nil g h order is = collected (λ x. P x ⊎ Q x) start new all nil (gains_both start mid new P Q g h) order is
