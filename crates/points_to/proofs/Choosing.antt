-- What the class of a receiver selects, and what a filter passes.
use Rattle.std.proofs.Common.{◌≡◌, ◌⊎◌, ◌↔◌, ◌<◌, ◌≤◌, ℕ, Bool, true, false, List, [], ◌∷◌, Option, Some, None, Contains, length, get_or, slice_get, inl, inr, refl, sym, ap, subst, ◌∙◌, arith}
use Rattle.std.proofs.lemmas.List.Elements.{Contains-get_or}
use Rattle.std.proofs.lemmas.Option.{slice_get_past, slice_get_read}
use Rattle.slicer_ids.specs.declared.ids.CallId.{CallId}
use Rattle.slicer_ids.specs.declared.ids.ClassId.{ClassId}
use Rattle.slicer_ids.specs.declared.ids.MethodId.{MethodId}
use Rattle.dep_form.specs.declared.rules.SiteInfo.{SiteInfo}
use Rattle.dep_form.specs.declared.rules.Var.{Var}
use Rattle.dep_form.specs.declared.system.System.{System}
use Rattle.dep_form.specs.Constraints.{SelectsMethod, SelectsOutside, Passes}
use Rattle.points_to.specs.declared.found.Found.{Found}
use Rattle.points_to.specs.declared.groups.Select.{Select}
use Rattle.points_to.specs.declared.place.Place.TheVariants.{Variable, Receivers}
use Rattle.points_to.specs.Bits.{IsMember}
use Rattle.points_to.specs.Indexes.{IsMask}
use Rattle.points_to.specs.Items.{Item, AllOf, IsClosed, Adds, Filters, filters, OneOf, IfSome, Those, Where, Or}
use Rattle.points_to.specs.Rules.{Chooses, Selects, Copies, site}
use Rattle.points_to.specs.States.{Moves, Knows}
use Rattle.points_to.proofs.Looking.{some_is, if_some, of_some}
use Rattle.points_to.proofs.Moving.{Moves-as, Moves-none}

pub site_read : (s : System) (h : ℕ) (xs : List SiteInfo) (info : SiteInfo) → xs ≡ s.sites → h < length xs → info ≡ get_or xs h info → slice_get s.sites h ≡ Some info
site_read s h xs info same lt e = subst (λ (ys : List SiteInfo). slice_get ys h ≡ Some info) same (slice_get_read xs (length xs) h info refl lt e)

-- the information of a site is one
one_info : (s : System) (h : ℕ) (a b : SiteInfo) → slice_get s.sites h ≡ Some a → slice_get s.sites h ≡ Some b → a ≡ b
one_info s h a b e f = some_is a b (sym e ∙ f)

true_false : (b : Bool) → b ≡ true → b ≡ false → ⊥
true_false b e f = grind (arith, e, f)

no_class : (o : Option ClassId) (c : ClassId) → o ≡ None → o ≡ Some c → ⊥
no_class o c e f = grind (arith, e, f)

-- a number that is no site selects nothing
pub chooses_nothing : (s : System) (st : Found) (c : CallId) (g h : ℕ) (xs : List SiteInfo) → xs ≡ s.sites → length xs ≤ h → Moves s st st (Chooses s c g h)
chooses_nothing s st c g h xs same le = Moves-none s st (Chooses s c g h) (λ q ps f r all. elim r [
  | inl x ↦ absurd (none x.1.0 x.1.2)
  | inr x ↦ absurd (none x.0.0 x.0.1)
])
  where
    none : (info : SiteInfo) → slice_get s.sites h ≡ Some info → ⊥
    none info e = let past : slice_get s.sites h ≡ None = subst (λ (ys : List SiteInfo). slice_get ys h ≡ None) same (slice_get_past xs h le) in grind (arith, e, past)

-- why a site goes outside
abbrev pub GoesOut : System → ℕ → SiteInfo → Type 0
GoesOut s g info = (info.array ≡ true) ⊎ ((info.class ≡ None) ⊎ ((k : ClassId) × (info.class ≡ Some k) × ((o : Option MethodId) → Contains s.selects (g, k, o) → ⊥)))

pub chooses_outside : (s : System) (old new : Found) (c : CallId) (g h : ℕ) (info : SiteInfo) → slice_get s.sites h ≡ Some info → GoesOut s g info → Moves s old new (Adds (Receivers c) h) → Moves s old new (Chooses s c g h)
chooses_outside s old new c g h info at out = Moves-as s old new (Adds (Receivers c) h) (Chooses s c g h)
    (λ t k ps f r all. k ps f (inr ((info, at, out), r)) all)
    (λ k ps f r all. elim r [ inl x ↦ absurd (none x.0 x.1) | inr x ↦ k ps f x.1 all ])
  where
    none : (t : MethodId) → SelectsMethod s g (site h) t → ⊥
    none t x =
        let same = one_info s h x.0 info x.2 at in
        let array : info.array ≡ false = ap (λ (i : SiteInfo). i.array) (sym same) ∙ x.3 in
        let class : info.class ≡ Some x.1 = ap (λ (i : SiteInfo). i.class) (sym same) ∙ x.4 in
        elim out [
          | inl e ↦ true_false info.array e array
          | inr o ↦ elim o [
            | inl e ↦ no_class info.class x.1 e class
            | inr e ↦ let k : e.0 ≡ x.1 = some_is e.0 x.1 (sym e.1 ∙ class) in e.2 (Some t) (subst (λ (y : ClassId). Contains s.selects (g, y, Some t)) (sym k) x.5)
          ]
        ]

pub none_selected : (s : System) (k : ClassId) (g : ℕ) (xs : List Select) → ((x : Select) → Contains xs x ↔ (Contains s.selects (x.signature, k, x.target) × (x.signature ≡ g))) → length xs ≡ 0 → (o : Option MethodId) → Contains s.selects (g, k, o) → ⊥
none_selected s k g xs is empty o c = let d : Contains xs (record { signature = g; target = o }) = (is (record { signature = g; target = o })).1 (c, refl) in omega (arith, d.1, empty)

module _ (s : System) (old new : Found) (c : CallId) (g h : ℕ) (info : SiteInfo) (k : ClassId) (xs : List Select) (at : slice_get s.sites h ≡ Some info) (plain : info.array ≡ false) (class : info.class ≡ Some k)
    (is : (x : Select) → Contains xs x ↔ (Contains s.selects (x.signature, k, x.target) × (x.signature ≡ g))) (some : 0 < length xs) where
  no_outside : SelectsOutside s g (site h) → ⊥
  no_outside x =
      let same = one_info s h x.0 info x.1 at in
      elim x.2 [
        | inl e ↦ true_false x.0.array e (ap (λ (i : SiteInfo). i.array) same ∙ plain)
        | inr o ↦ elim o [
          | inl e ↦ no_class x.0.class k e (ap (λ (i : SiteInfo). i.class) same ∙ class)
          | inr e ↦
              let d : Select = record { signature = 0; target = None } in
              let y = (is (get_or xs 0 d)).0 (Contains-get_or xs 0 d some) in
              let one : e.0 ≡ k = some_is e.0 k (sym e.1 ∙ ap (λ (i : SiteInfo). i.class) same ∙ class) in
              e.2 (get_or xs 0 d).target (subst (λ (z : ClassId). Contains s.selects (g, z, (get_or xs 0 d).target)) (sym one) (subst (λ n. Contains s.selects (n, k, (get_or xs 0 d).target)) y.1 y.0))
        ]
      ]

  pub chooses_selected : Moves s old new (OneOf (λ (x : Select). IfSome (Selects s c h) x.target) xs) → Moves s old new (Chooses s c g h)
  chooses_selected = Moves-as s old new (OneOf (λ (x : Select). IfSome (Selects s c h) x.target) xs) (Chooses s c g h)
      (λ t q ps f r all. let y = (is r.0).0 r.1 in let m = if_some (Selects s c h) r.0.target r.2 in
      q ps f (inl (m.0, (info, k, at, plain, class, subst (λ (o : Option MethodId). Contains s.selects (g, k, o)) m.1 (subst (λ n. Contains s.selects (n, k, r.0.target)) y.1 y.0)), m.2)) all)
      (λ q ps f r all. elim r [
        | inl x ↦ q ps f (record { signature = g; target = Some x.0 }, listed x.0 x.1, x.2) all
        | inr x ↦ absurd (no_outside x.0)
      ])
    where
      listed : (t : MethodId) → SelectsMethod s g (site h) t → Contains xs (record { signature = g; target = Some t })
      listed t x =
          let same = one_info s h x.0 info x.2 at in
          let one : x.1 ≡ k = some_is x.1 k (sym x.4 ∙ ap (λ (i : SiteInfo). i.class) same ∙ class) in
          (is (record { signature = g; target = Some t })).1 (subst (λ (z : ClassId). Contains s.selects (g, z, Some t)) one x.5, refl)

-- a filter by a row that has the sites that pass
pub filters_as : (s t : System) (old new : Found) (v w : Var) (keep : ClassId) (mask : List ℕ) → IsMask t keep mask → Moves s old new (Filters (IsMember mask) (Variable v) (Variable w)) → Moves s old new (Copies t v w (Some keep))
filters_as s t old new v w keep mask is = Moves-as s old new (Filters (IsMember mask) (Variable v) (Variable w)) (Copies t v w (Some keep))
    (λ x k ps f r all. forth k ps f r all)
    (λ k ps f r all. back k ps f r all)
  where
    back : {K : Item → Type 0} → IsClosed (Filters (IsMember mask) (Variable v) (Variable w)) K → (ps : List Item) (f : Item) → Filters (λ n. Passes t (Some keep) (site n)) (Variable v) (Variable w) ps f → AllOf K ps → K f
    back k _ _ (filters {n} p) all = k _ _ (filters ((is n).1 p)) all

    forth : {K : Item → Type 0} → IsClosed (Filters (λ n. Passes t (Some keep) (site n)) (Variable v) (Variable w)) K → (ps : List Item) (f : Item) → Filters (IsMember mask) (Variable v) (Variable w) ps f → AllOf K ps → K f
    forth k _ _ (filters {n} m) all = k _ _ (filters ((is n).0 m)) all
