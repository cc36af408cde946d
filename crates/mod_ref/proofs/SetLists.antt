-- Lists of numbers by method, as they grow.
use Rattle.std.proofs.Common.{◌≡◌, ◌≢◌, ◌⊎◌, ◌↔◌, ◌<◌, ◌≤◌, ◌+◌, ℕ, zero, suc, List, [], ◌∷◌, ◌++◌, All, Contains, length, get_or, set, take, inl, inr, refl, sym, ap, subst, ◌∙◌, length-set, get_or-set_same, get_or-set_other, arith}
use Rattle.std.specs.Global.{Vec}
use Rattle.std.proofs.lemmas.Bool.{cases_eq, cases_lt}
use Rattle.std.proofs.lemmas.List.{get_or_past}
use Rattle.std.proofs.lemmas.List.Elements.{All-contains, Contains-get_or}
use Rattle.slicer_ids.specs.declared.ids.LocId.{LocId}
use Rattle.slicer_ids.specs.declared.ids.MethodId.{MethodId}
use Rattle.worklists.specs.Growth.{FromOne}
use Rattle.mod_ref.specs.Gains.{Gains}
use Rattle.mod_ref.specs.Rows.{AreSetsBelow, LeadsInto, ListsGain, Rises, list_of, method, row_of}
use Rattle.mod_ref.proofs.Gaining.{gains_none, gains_same, gains_first, gains_more, gains_all}

pub no_list_more : (lists : List (List LocId)) (list : List LocId) → list ≡ [] → ((k : ℕ) → list_of lists k ≡ []) → (k : ℕ) → list_of (lists ++ list ∷ []) k ≡ []
no_list_more [] list e h zero = e
no_list_more [] list e h (suc k) = get_or_past (list ∷ []) (suc k) [] (omega arith)
no_list_more (x ∷ lists) list e h zero = h zero
no_list_more (x ∷ lists) list e h (suc k) = no_list_more lists list e (λ j. h (suc j)) k

-- the list of one method got a number
pub list_gains : (lists : List (List LocId)) (m : ℕ) (x y : List LocId) (number : LocId) → m < length lists → Gains (list_of lists m) y (λ n. n ≡ number)
    → ListsGain lists (set (set lists m x) m y) (λ k n. (m ≡ k) × (n ≡ number))
list_gains lists m x y number lt g k within = elim (cases_eq k m) [
  | inl e ↦
      let is : list_of (set (set lists m x) m y) k ≡ y = ap (list_of (set (set lists m x) m y)) e ∙ get_or-set_same (set lists m x) m y [] (omega (arith, lt, length-set lists m x)) in
      gains_same (list_of lists k) (list_of (set (set lists m x) m y) k) (λ n. n ≡ number) (λ n. (m ≡ k) × (n ≡ number)) (λ n. (λ p. (sym e, p), λ p. p.1))
      (subst (λ (ys : List LocId). Gains (list_of lists k) ys (λ n. n ≡ number)) (sym is) (subst (λ (ys : List LocId). Gains ys y (λ n. n ≡ number)) (ap (list_of lists) (sym e)) g))
  | inr ne ↦
      let is : list_of (set (set lists m x) m y) k ≡ list_of lists k = get_or-set_other (set lists m x) m k y [] ne ∙ get_or-set_other lists m k x [] ne in
      subst (λ (ys : List LocId). Gains (list_of lists k) ys (λ n. (m ≡ k) × (n ≡ number))) (sym is) (gains_none (list_of lists k) (λ n. (m ≡ k) × (n ≡ number)) (λ n p. ne (sym p.0)))
]

-- a loop over methods
abbrev pub AtMethod : LocId → ℕ → ℕ → LocId → Type 0
AtMethod number m k n = (m ≡ k) × (n ≡ number)

pub lists_first : (number : LocId) (ms : List ℕ) (lists : List (List LocId)) → ListsGain lists lists (λ k. FromOne (λ m. AtMethod number m k) (take 0 ms))
lists_first number ms lists k lt = gains_first (λ m. AtMethod number m k) ms (list_of lists k)

pub lists_more : (number : LocId) (ms : List ℕ) (i d : ℕ) (old mid new : List (List LocId)) → i < length ms → length mid ≡ length old
    → ListsGain old mid (λ k. FromOne (λ m. AtMethod number m k) (take i ms)) → ListsGain mid new (AtMethod number (get_or ms i d)) → ListsGain old new (λ k. FromOne (λ m. AtMethod number m k) (take (i + 1) ms))
lists_more number ms i d old mid new lt len g h k within = gains_more (λ m. AtMethod number m k) ms i d (list_of old k) (list_of mid k) (list_of new k) lt (g k within) (h k (omega (arith, within, len)))

pub lists_all : (number : LocId) (ms : List ℕ) (i : ℕ) (old new : List (List LocId)) → length ms ≤ i → ListsGain old new (λ k. FromOne (λ m. AtMethod number m k) (take i ms)) → ListsGain old new (λ k. FromOne (λ m. AtMethod number m k) ms)
lists_all number ms i old new le g k lt = gains_all (λ m. AtMethod number m k) ms i (list_of old k) (list_of new k) le (g k lt)

abbrev UpTo : LocId → LocId → Type 0
UpTo number n = n.0 ≤ number.0

same_bound : (number n : LocId) → n ≡ number → n.0 ≤ number.0
same_bound number n e = let f = ap (λ (k : LocId). k.0) e in omega (arith, f)

-- no number in a list is above the one that is added
pub still_below : (number : LocId) (ms : List ℕ) (k : ℕ) (old new : List LocId) → All (λ (n : LocId). n.0 ≤ number.0) old → Gains old new (FromOne (λ m. AtMethod number m k) ms) → All (λ (n : LocId). n.0 ≤ number.0) new
still_below number ms k old new below g i d lt = elim ((g (get_or new i d)).0 (Contains-get_or new i d lt)) [
  | inl o ↦ All-contains (UpTo number) old (get_or new i d) below o
  | inr f ↦ same_bound number (get_or new i d) f.2.1
]

pub all_below : (callers sources : List (Vec MethodId)) (number : ℕ) (old : List (List LocId)) → AreSetsBelow callers sources old number → (k : ℕ) → All (λ (n : LocId). n.0 ≤ number) (list_of old k)
all_below callers sources number old s k = elim (cases_lt k (length callers)) [
  | inl lt ↦ λ i d within. let h = (s.members k lt (get_or (list_of old k) i d)).0 (Contains-get_or (list_of old k) i d within) in omega (arith, h.0)
  | inr past ↦ λ i d within. absurd (omega (arith, within, ap (λ (ns : List LocId). length ns) (get_or_past old k [] (omega (arith, past, s.len)))))
]

-- one number more
module _ (callers sources : List (Vec MethodId)) (number : ℕ) (ms : List ℕ) (old new : List (List LocId)) (s : AreSetsBelow callers sources old number)
    (leads : (n : ℕ) → Contains ms n ↔ LeadsInto callers (row_of sources number) (method n))
    (gain : ListsGain old new (λ k. FromOne (λ m. AtMethod (record { 0 = number }) m k) ms)) where
  pub members_more : (m : ℕ) → m < length callers → (n : LocId) → Contains (list_of new m) n ↔ ((n.0 < number + 1) × LeadsInto callers (row_of sources n.0) (method m))
  members_more m lt n = (to, from)
    where
      to : Contains (list_of new m) n → (n.0 < number + 1) × LeadsInto callers (row_of sources n.0) (method m)
      to c = elim ((gain m (omega (arith, lt, s.len)) n).0 c) [
        | inl o ↦ let h = (s.members m lt n).0 o in (omega (arith, h.0), h.1)
        | inr f ↦
            let e : n.0 ≡ number = ap (λ (k : LocId). k.0) f.2.1 in
            (omega (arith, e), subst (λ i. LeadsInto callers (row_of sources i) (method m)) (sym e) (subst (λ i. LeadsInto callers (row_of sources number) (method i)) f.2.0 ((leads f.0).0 f.1)))
      ]

      from : (n.0 < number + 1) × LeadsInto callers (row_of sources n.0) (method m) → Contains (list_of new m) n
      from (below, h) = elim (cases_lt n.0 number) [
        | inl less ↦ (gain m (omega (arith, lt, s.len)) n).1 (inl ((s.members m lt n).1 (less, h)))
        | inr ge ↦
            let e : n.0 ≡ number = omega (arith, ge, below) in
            (gain m (omega (arith, lt, s.len)) n).1 (inr (m, (leads m).1 (subst (λ i. LeadsInto callers (row_of sources i) (method m)) e h), (refl, ap (λ (i : ℕ). record { 0 = i }) e)))
      ]

  pub sets_more : length new ≡ length old → ((m : ℕ) → Rises (list_of new m)) → AreSetsBelow callers sources new (number + 1)
  sets_more len rises = record { len = len ∙ s.len; rises = rises; members = members_more }

pub sets_none : (callers sources : List (Vec MethodId)) (lists : List (List LocId)) → length lists ≡ length callers → ((k : ℕ) → list_of lists k ≡ []) → AreSetsBelow callers sources lists 0
sets_none callers sources lists len none = record {
  len = len;
  rises = λ m i j d lt within. absurd (omega (arith, within, ap (λ (ns : List LocId). length ns) (none m)));
  members = λ m lt n. (λ c. absurd (omega (arith, c.1, ap (λ (ns : List LocId). length ns) (none m))), λ h. absurd (omega (arith, h.0)));
}
