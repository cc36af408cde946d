-- Which sites a filter passes, in rows.
use Rattle.std.proofs.Common.{◌≡◌, ◌≢◌, ◌⊎◌, ◌↔◌, ◌<◌, ◌≤◌, ◌+◌, ◌%◌, ℕ, Bool, true, false, List, [], ◌∷◌, ◌++◌, Option, Some, None, Contains, length, get_or, set, take, slice_get, inl, inr, refl, sym, ap, subst, ◌∙◌, arith}
use Rattle.std.specs.Global.{Vec}
use Rattle.std.specs.Option.{option_map_or}
use Rattle.std.proofs.lemmas.Bool.{cases_eq, cases_lt, cases_Bool}
use Rattle.std.proofs.lemmas.List.{take_more, get_or_past}
use Rattle.std.proofs.lemmas.List.Elements.{Contains-append_left, Contains-push, Contains-push_cases}
use Rattle.std.proofs.lemmas.Option.{slice_get_read, slice_get_past, slice_get_within}
use Rattle.std.proofs.lemmas.Nat.Bits.{bit_at-zero}
use Rattle.slicer_ids.specs.declared.ids.ClassId.{ClassId}
use Rattle.dep_form.specs.declared.rules.SiteInfo.{SiteInfo}
use Rattle.dep_form.specs.declared.system.System.{System}
use Rattle.dep_form.specs.Constraints.{Passes}
use Rattle.points_to.specs.Bits.{IsMember, RowsAdd, row_of}
use Rattle.points_to.specs.Indexes.{AreBelow, AreMasks, IsKept, IsMask, IsMaskBelow}
use Rattle.points_to.specs.Rules.{site}
use Rattle.points_to.proofs.Listed.{last_or_before}
use Rattle.points_to.proofs.Looking.{some_is}
use Rattle.points_to.proofs.Slots.{get_set_same, get_set_other}

abbrev both : ClassId → ClassId → ClassId × ClassId
both a b = (a, b)

pub no_member : (k : ℕ) → IsMember [] k → ⊥
no_member k m = omega (arith, m, bit_at-zero (k % 64))

-- a row got one number more
pub row_added : (old mid new : List (Vec ℕ)) (at n : ℕ) (b : Bool) → ((c : ℕ) → row_of mid c ≡ row_of old c) → RowsAdd mid new at (λ k. k ≡ n) b → (c d : ℕ) → IsMember (row_of new c) d ↔ (IsMember (row_of old c) d ⊎ ((c ≡ at) × (d ≡ n)))
row_added old mid new at n b same h c d = elim (cases_eq c at) [
  | inl e ↦ subst (λ j. IsMember (row_of new j) d ↔ (IsMember (row_of old j) d ⊎ ((j ≡ at) × (d ≡ n)))) (sym e) (
    λ m. elim ((h.adds d).0 m) [ inl o ↦ inl (subst (λ xs. IsMember xs d) (same at) o) | inr x ↦ inr (refl, x) ],
    λ m. elim m [ inl o ↦ (h.adds d).1 (inl (subst (λ xs. IsMember xs d) (sym (same at)) o)) | inr x ↦ (h.adds d).1 (inr x.1) ],
  )
  | inr ne ↦ (
    λ m. inl (subst (λ xs. IsMember xs d) (h.other c ne ∙ same c) m),
    λ m. elim m [ inl o ↦ subst (λ xs. IsMember xs d) (sym (h.other c ne ∙ same c)) o | inr x ↦ absurd (ne x.0) ],
  )
]

pub none_below : (rows : List (Vec ℕ)) → rows ≡ [] → AreBelow [] rows
none_below rows e = λ c d. (λ m. absurd (no_member d.0 (subst (λ xs. IsMember xs d.0) (past c.0) m)), λ h. absurd (omega (arith, h.1)))
  where
    past : (c : ℕ) → row_of rows c ≡ []
    past c = ap (λ (xs : List (Vec ℕ)). row_of xs c) e

pub one_below : (pairs : List (ClassId × ClassId)) (i : ℕ) (p : ClassId × ClassId) (old new : List (Vec ℕ)) → i < length pairs → AreBelow (take i pairs) old
    → ((c d : ℕ) → IsMember (row_of new c) d ↔ (IsMember (row_of old c) d ⊎ ((c ≡ (get_or pairs i p).1.0) × (d ≡ (get_or pairs i p).0.0)))) → AreBelow (take (i + 1) pairs) new
one_below pairs i p old new lt before adds = λ c d. subst (λ (ys : List (ClassId × ClassId)). IsMember (row_of new c.0) d.0 ↔ Contains ys (d, c)) (sym (take_more pairs i p lt)) (to c d, from c d)
  where
    to : (c d : ClassId) → IsMember (row_of new c.0) d.0 → Contains (take i pairs ++ get_or pairs i p ∷ []) (d, c)
    to c d m = elim ((adds c.0 d.0).0 m) [
      | inl o ↦ Contains-append_left (take i pairs) (get_or pairs i p ∷ []) (d, c) ((before c d).0 o)
      | inr e ↦ subst (λ (y : ClassId × ClassId). Contains (take i pairs ++ get_or pairs i p ∷ []) y) (sym (same (ap (λ (n : ℕ). numbered n) e.1) (ap (λ (n : ℕ). numbered n) e.0))) (Contains-push (take i pairs) (get_or pairs i p))
    ]
      where
        numbered : ℕ → ClassId
        numbered n = record { 0 = n }

        same : {a b e f : ClassId} → a ≡ e → b ≡ f → both a b ≡ both e f
        same {a} {b} {e} {f} x y = ap (λ z. both z b) x ∙ ap (λ z. both e z) y

    from : (c d : ClassId) → Contains (take i pairs ++ get_or pairs i p ∷ []) (d, c) → IsMember (row_of new c.0) d.0
    from c d h = elim (Contains-push_cases (take i pairs) (get_or pairs i p) (d, c) h) [
      | inl o ↦ (adds c.0 d.0).1 (inl ((before c d).1 o))
      | inr e ↦ (adds c.0 d.0).1 (inr (ap (λ (y : ClassId × ClassId). y.1.0) (sym e), ap (λ (y : ClassId × ClassId). y.0.0) (sym e)))
    ]

-- ---- masks
kept_passes : (s : System) (rows : List (Vec ℕ)) (keep : ClassId) (n : ℕ) (info : SiteInfo) → AreBelow s.subclasses rows → slice_get s.sites n ≡ Some info → IsKept rows info keep → Passes s (Some keep) (site n)
kept_passes s rows keep n info below at k = (info, at, k.0, elim k.1 [ inl e ↦ inl e | inr d ↦ inr (d.0, d.1, (below keep d.0).0 d.2) ])

passes_kept : (s : System) (rows : List (Vec ℕ)) (keep : ClassId) (n : ℕ) (info : SiteInfo) → AreBelow s.subclasses rows → slice_get s.sites n ≡ Some info → Passes s (Some keep) (site n) → IsKept rows info keep
passes_kept s rows keep n info below at p =
    let same : p.0 ≡ info = some_is p.0 info (sym p.1 ∙ at) in
    subst (λ (i : SiteInfo). IsKept rows i keep) same (p.2, elim p.3 [ inl e ↦ inl e | inr d ↦ inr (d.0, d.1, (below keep d.0).1 d.2) ])

pub site_added : (s : System) (rows : List (Vec ℕ)) (keep : ClassId) (n : ℕ) (info : SiteInfo) (kept : Bool) (old new : List ℕ) → AreBelow s.subclasses rows → slice_get s.sites n ≡ Some info → (kept ≡ true) ↔ IsKept rows info keep
    → IsMaskBelow s keep n old → ((k : ℕ) → IsMember new k ↔ (IsMember old k ⊎ ((kept ≡ true) × (k ≡ n)))) → IsMaskBelow s keep (n + 1) new
site_added s rows keep n info kept old new below at is before adds = λ k. (
  λ m. elim ((adds k).0 m) [
    | inl o ↦ let h = (before k).0 o in (omega (arith, h.0), h.1)
    | inr e ↦ (omega (arith, e.1), subst (λ j. Passes s (Some keep) (site j)) (sym e.1) (kept_passes s rows keep n info below at (is.0 e.0)))
  ],
  λ h. elim (cases_lt k n) [
    | inl lt ↦ (adds k).1 (inl ((before k).1 (lt, h.1)))
    | inr le ↦ let e : k ≡ n = omega (arith, le, h.0) in (adds k).1 (inr (is.1 (passes_kept s rows keep n info below at (subst (λ j. Passes s (Some keep) (site j)) e h.1)), e))
  ],
)

pub no_site : (s : System) (keep : ClassId) (row : List ℕ) → row ≡ [] → IsMaskBelow s keep 0 row
no_site s keep row e = λ k. (λ m. absurd (no_member k (subst (λ xs. IsMember xs k) e m)), λ h. omega (arith, h.0))

pub all_sites : (s : System) (keep : ClassId) (n : ℕ) (row : List ℕ) → n ≡ length s.sites → IsMaskBelow s keep n row → IsMask s keep row
all_sites s keep n row e h = λ k. (λ m. ((h k).0 m).1, λ p. (h k).1 (let lt = slice_get_within s.sites k p.0 p.1 in omega (arith, e, lt), p))

pub site_of : (s : System) (h : ℕ) (xs : List SiteInfo) (info : SiteInfo) → xs ≡ s.sites → h < length s.sites → info ≡ get_or xs h info → slice_get s.sites h ≡ Some info
site_of s h xs info same lt e = slice_get_read s.sites (length s.sites) h info refl lt (e ∙ ap (λ (ys : List SiteInfo). get_or ys h info) same)

-- a class without a mask
pub masks_more : (s : System) (masks : List (Option (Vec ℕ))) → AreMasks s masks → AreMasks s (masks ++ None ∷ [])
masks_more s masks h = λ c mask e. elim (last_or_before masks None (Some mask) c.0 e) [ inl o ↦ h c mask o | inr x ↦ absurd (none mask x.1) ]
  where
    none : (mask : Vec ℕ) → None ≡ Some mask → ⊥
    none mask e = absurd cc

pub no_masks : (s : System) (masks : List (Option (Vec ℕ))) → masks ≡ [] → AreMasks s masks
no_masks s masks nil = λ c mask e. absurd (omega (arith, slice_get_within masks c.0 (Some mask) e, ap (λ xs. length xs) nil))

-- a class got its mask
pub masks_set : (s : System) (masks : List (Option (Vec ℕ))) (keep : ClassId) (mask : Vec ℕ) → keep.0 < length masks → AreMasks s masks → IsMask s keep mask.items → AreMasks s (set masks keep.0 (Some mask))
masks_set s masks keep mask lt h is = λ c m e. elim (cases_eq c.0 keep.0) [
  | inl same ↦
      let here : slice_get (set masks keep.0 (Some mask)) keep.0 ≡ Some (Some m) = subst (λ n. slice_get (set masks keep.0 (Some mask)) n ≡ Some (Some m)) same e in
      let two : Some mask ≡ Some m = some_is (Some mask) (Some m) (sym (get_set_same masks keep.0 (Some mask) lt) ∙ here) in
      let one : mask ≡ m = some_is mask m two in
      let class : keep ≡ c = ap (λ (n : ℕ). numbered n) (sym same) in
      subst (λ (k : ClassId). IsMask s k m.items) class (subst (λ (v : Vec ℕ). IsMask s keep v.items) one is)
  | inr ne ↦ h c m (sym (get_set_other masks keep.0 c.0 (Some mask) ne) ∙ e)
]
  where
    numbered : ℕ → ClassId
    numbered n = record { 0 = n }

-- a number that is no site is passed by no filter
pub past_site : (s : System) (keep : ClassId) (n : ℕ) (xs : List SiteInfo) (row : List ℕ) → xs ≡ s.sites → length xs ≤ n → IsMaskBelow s keep n row → IsMaskBelow s keep (n + 1) row
past_site s keep n xs row same le h = λ k. (
  λ m. let p = (h k).0 m in (omega (arith, p.0), p.1),
  λ p. (h k).1 (let lt = slice_get_within s.sites k p.1.0 p.1.1 in omega (arith, lt, le, ap (λ (ys : List SiteInfo). length ys) same), p.1),
)
