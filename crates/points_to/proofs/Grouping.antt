-- What classes select: grouped by class, in the order of signatures, and found there.
use Rattle.std.proofs.Common.{◌≡◌, ◌≢◌, ◌⊎◌, ◌↔◌, ◌<◌, ◌≤◌, ◌+◌, ◌-◌, ℕ, zero, suc, List, [], ◌∷◌, ◌++◌, Option, Some, Contains, length, get_or, set, take, drop, slice_get, inl, inr, refl, sym, ap, subst, ◌∙◌, arith}
use Rattle.std.specs.Global.{Vec}
use Rattle.std.specs.Option.{option_map_or}
use Rattle.std.specs.List.Sorted.{IsNonDecreasingBy}
use Rattle.std.proofs.lemmas.Bool.{cases_eq, cases_lt}
use Rattle.std.proofs.lemmas.List.{length-set, take_more, get_or-take, get_or-drop, length-take-le, length-drop}
use Rattle.std.proofs.lemmas.List.Elements.{Contains-get_or, Contains-append_left, Contains-push, Contains-push_cases}
use Rattle.std.proofs.lemmas.Option.{slice_get_read, slice_get_past}
use Rattle.slicer_ids.specs.declared.ids.ClassId.{ClassId}
use Rattle.slicer_ids.specs.declared.ids.MethodId.{MethodId}
use Rattle.points_to.specs.declared.groups.Select.{Select}
use Rattle.points_to.specs.Indexes.{AddsSelect, AreGroupsOf, AreSorted, SortsGroup, group_of}
use Rattle.points_to.proofs.Slots.{get_set_same, get_set_other}

abbrev entry_of : ℕ → ClassId → Option MethodId → ℕ × ClassId × Option MethodId
entry_of a b c = (a, b, c)

abbrev select_of : ℕ → Option MethodId → Select
select_of a b = record { signature = a; target = b }

pub group_read : (groups : List (Vec Select)) (i : ℕ) (group : Vec Select) → i < length groups → group ≡ get_or groups i group → group.items ≡ group_of groups i
group_read groups i group lt e = sym (ap (λ o. option_map_or (λ (v : Vec Select). v.items) o []) (slice_get_read groups (length groups) i group refl lt e))

pub group_same : (groups : List (Vec Select)) (i : ℕ) (group : Vec Select) → i < length groups → group_of (set groups i group) i ≡ group.items
group_same groups i group lt = ap (λ o. option_map_or (λ (v : Vec Select). v.items) o []) (get_set_same groups i group lt)

pub group_other : (groups : List (Vec Select)) (i j : ℕ) (group : Vec Select) → j ≢ i → group_of (set groups i group) j ≡ group_of groups j
group_other groups i j group ne = ap (λ o. option_map_or (λ (v : Vec Select). v.items) o []) (get_set_other groups i j group ne)

pub group_past : (groups : List (Vec Select)) (i : ℕ) → length groups ≤ i → group_of groups i ≡ []
group_past groups i le = ap (λ o. option_map_or (λ (v : Vec Select). v.items) o []) (slice_get_past groups i le)

push_is : (xs : List Select) (x y : Select) → Contains (xs ++ x ∷ []) y ↔ (Contains xs y ⊎ (y ≡ x))
push_is xs x y = (
  λ c. elim (Contains-push_cases xs x y c) [ inl o ↦ inl o | inr e ↦ inr (sym e) ],
  λ h. elim h [ inl o ↦ Contains-append_left xs (x ∷ []) y o | inr e ↦ subst (λ (z : Select). Contains (xs ++ x ∷ []) z) (sym e) (Contains-push xs x) ],
)

pub select_added : (old mid : List (Vec Select)) (class : ℕ) (select : Select) (group : Vec Select) → ((c : ℕ) → group_of mid c ≡ group_of old c) → class < length mid → group.items ≡ group_of mid class ++ select ∷ [] → AddsSelect old (set mid class group) class select
select_added old mid class select group same lt is = λ c x. elim (cases_eq c class) [
  | inl e ↦ subst (λ j. Contains (group_of (set mid class group) j) x ↔ (Contains (group_of old j) x ⊎ ((j ≡ class) × (x ≡ select)))) (sym e)
      (subst (λ (ys : List Select). Contains ys x ↔ (Contains (group_of old class) x ⊎ ((class ≡ class) × (x ≡ select)))) (sym (group_same mid class group lt ∙ is ∙ ap (λ ys. ys ++ select ∷ []) (same class))) (here x))
  | inr ne ↦ subst (λ (ys : List Select). Contains ys x ↔ (Contains (group_of old c) x ⊎ ((c ≡ class) × (x ≡ select)))) (sym (group_other mid class c group ne ∙ same c))
      (λ h. inl h, λ h. elim h [ inl o ↦ o | inr e ↦ absurd (ne e.0) ])
]
  where
    here : (x : Select) → Contains (group_of old class ++ select ∷ []) x ↔ (Contains (group_of old class) x ⊎ ((class ≡ class) × (x ≡ select)))
    here x = let p = push_is (group_of old class) select x in (
      λ c. elim (p.0 c) [ inl o ↦ inl o | inr e ↦ inr (refl, e) ],
      λ h. elim h [ inl o ↦ p.1 (inl o) | inr e ↦ p.1 (inr e.1) ],
    )

pub no_groups : (groups : List (Vec Select)) → groups ≡ [] → AreGroupsOf [] groups
no_groups groups e = λ c x. (λ h. absurd (omega (arith, (subst (λ (ys : List Select). Contains ys x) (group_past groups c.0 (let q : length groups ≡ 0 = ap (λ ys. length ys) e in omega (arith, q))) h).1)), λ h. absurd (omega (arith, h.1)))

-- the selects of one entry more
pub one_more : (selects : List (ℕ × ClassId × Option MethodId)) (i : ℕ) (entry : ℕ × ClassId × Option MethodId) (old new : List (Vec Select)) (select : Select) → i < length selects
    → select.signature ≡ (get_or selects i entry).0 → select.target ≡ (get_or selects i entry).2
    → AreGroupsOf (take i selects) old → AddsSelect old new (get_or selects i entry).1.0 select → AreGroupsOf (take (i + 1) selects) new
one_more selects i entry old new select lt sig tar before adds = λ c x. subst (λ (ys : List (ℕ × ClassId × Option MethodId)). Contains (group_of new c.0) x ↔ Contains ys (x.signature, c, x.target)) (sym (take_more selects i entry lt)) (to c x, from c x)
  where
    to : (c : ClassId) (x : Select) → Contains (group_of new c.0) x → Contains (take i selects ++ get_or selects i entry ∷ []) (x.signature, c, x.target)
    to c x h = elim ((adds c.0 x).0 h) [
      | inl o ↦ Contains-append_left (take i selects) (get_or selects i entry ∷ []) (x.signature, c, x.target) ((before c x).0 o)
      | inr e ↦ let class : c ≡ (get_or selects i entry).1 = ap (λ (n : ℕ). numbered n) e.0 in
          let s' : x.signature ≡ (get_or selects i entry).0 = ap (λ (y : Select). y.signature) e.1 ∙ sig in
          let t' : x.target ≡ (get_or selects i entry).2 = ap (λ (y : Select). y.target) e.1 ∙ tar in
          subst (λ (y : ℕ × ClassId × Option MethodId). Contains (take i selects ++ get_or selects i entry ∷ []) y) (sym (same s' class t')) (Contains-push (take i selects) (get_or selects i entry))
    ]
      where
        numbered : ℕ → ClassId
        numbered n = record { 0 = n }

        same : {a d : ℕ} {b e : ClassId} {f g : Option MethodId} → a ≡ d → b ≡ e → f ≡ g → entry_of a b f ≡ entry_of d e g
        same {a} {d} {b} {e} {f} {g} p q r = ap (λ y. entry_of y b f) p ∙ ap (λ y. entry_of d y f) q ∙ ap (λ y. entry_of d e y) r

    from : (c : ClassId) (x : Select) → Contains (take i selects ++ get_or selects i entry ∷ []) (x.signature, c, x.target) → Contains (group_of new c.0) x
    from c x h = elim (Contains-push_cases (take i selects) (get_or selects i entry) (x.signature, c, x.target) h) [
      | inl o ↦ (adds c.0 x).1 (inl ((before c x).1 o))
      | inr e ↦ (adds c.0 x).1 (inr (ap (λ (y : ℕ × ClassId × Option MethodId). y.1.0) (sym e), selects_same (ap (λ (y : ℕ × ClassId × Option MethodId). y.0) (sym e) ∙ sym sig) (ap (λ (y : ℕ × ClassId × Option MethodId). y.2) (sym e) ∙ sym tar)))
    ]
      where
        selects_same : x.signature ≡ select.signature → x.target ≡ select.target → x ≡ select
        selects_same p q = ap (λ (n : ℕ). select_of n x.target) p ∙ ap (λ (o : Option MethodId). select_of select.signature o) q

-- ---- a part of a list
module _ (xs : List Select) (g first end : ℕ) (low : (k : ℕ) (d : Select) → k < first → (get_or xs k d).signature < g) (high : (k : ℕ) (d : Select) → first ≤ k → k < length xs → g ≤ (get_or xs k d).signature)
    (below : (k : ℕ) (d : Select) → k < end → (get_or xs k d).signature ≤ g) (above : (k : ℕ) (d : Select) → end ≤ k → k < length xs → g < (get_or xs k d).signature) (within : end ≤ length xs) where
  place : (x : Select) → Contains xs x → x.signature ≡ g → (k : ℕ) × (first ≤ k) × (k < end) × (get_or xs k x ≡ x)
  place x c e = (c.0, le, lt, c.2)
    where
      sig : (get_or xs c.0 x).signature ≡ g
      sig = ap (λ (y : Select). y.signature) c.2 ∙ e

      le : first ≤ c.0
      le = elim (cases_lt c.0 first) [ inl l ↦ absurd (omega (arith, low c.0 x l, sig)) | inr h ↦ h ]

      lt : c.0 < end
      lt = elim (cases_lt c.0 end) [ inl l ↦ l | inr h ↦ absurd (omega (arith, above c.0 x h c.1, sig)) ]

  part_length : first < end → length (take (end - first) (drop first xs)) ≡ end - first
  part_length lt = length-take-le (end - first) (drop first xs) (let e = length-drop first xs in omega (arith, e, within, lt))

  part_get : (k : ℕ) (d : Select) → k < end - first → get_or (take (end - first) (drop first xs)) k d ≡ get_or xs (first + k) d
  part_get k d lt = get_or-take (end - first) (drop first xs) k d lt ∙ get_or-drop first xs k d

  pub none_between : (ys : List Select) → ys ≡ [] → end ≤ first → (x : Select) → Contains ys x ↔ (Contains xs x × (x.signature ≡ g))
  none_between ys is le x = (
    λ c. absurd (omega (arith, (subst (λ (zs : List Select). Contains zs x) is c).1)),
    λ h. let p = place x h.0 h.1 in absurd (omega (arith, p.1, p.2, le)),
  )

  pub part_is : (ys : List Select) → ys ≡ take (end - first) (drop first xs) → first < end → (x : Select) → Contains ys x ↔ (Contains xs x × (x.signature ≡ g))
  part_is ys is lt x = subst (λ (zs : List Select). Contains zs x ↔ (Contains xs x × (x.signature ≡ g))) (sym is) (to, from)
    where
      to : Contains (take (end - first) (drop first xs)) x → Contains xs x × (x.signature ≡ g)
      to c =
          let len : length (take (end - first) (drop first xs)) ≡ end - first = part_length lt in
          let k : c.0 < end - first = omega (arith, c.1, len) in
          let at : get_or xs (first + c.0) x ≡ x = sym (part_get c.0 x k) ∙ c.2 in
          let l = high (first + c.0) x (omega arith) (omega (arith, k, within, lt)) in
          let u = below (first + c.0) x (omega (arith, k, lt)) in
          ((first + c.0, omega (arith, k, within, lt), at), omega (arith, l, u, ap (λ (y : Select). y.signature) at))

      from : Contains xs x × (x.signature ≡ g) → Contains (take (end - first) (drop first xs)) x
      from h =
          let p = place x h.0 h.1 in
          let k : p.0 - first < end - first = omega (arith, p.1, p.2, lt) in
          let e : first + (p.0 - first) ≡ p.0 = omega (arith, p.1) in
          (p.0 - first, omega (arith, k, part_length lt), part_get (p.0 - first) x k ∙ ap (λ n. get_or xs n x) e ∙ p.3)

-- ---- sorting
abbrev pub Sorted : List Select → Type 0
Sorted xs = IsNonDecreasingBy (λ (x : Select). x.signature) xs

pub group_sorted : (groups : List (Vec Select)) (at : ℕ) (old new : Vec Select) → at < length groups → old ≡ get_or groups at old → ((x : Select) → Contains new.items x ↔ Contains old.items x) → Sorted new.items → SortsGroup groups (set groups at new) at
group_sorted groups at old new lt is same sorted = record {
  len = length-set groups at new;
  same = λ c x. elim (cases_eq c at) [
    | inl e ↦ subst (λ j. Contains (group_of (set groups at new) j) x ↔ Contains (group_of groups j) x) (sym e) (here x)
    | inr ne ↦ subst (λ (ys : List Select). Contains ys x ↔ Contains (group_of groups c) x) (sym (group_other groups at c new ne)) (λ h. h, λ h. h)
  ];
  sorted = subst Sorted (sym (group_same groups at new lt)) sorted;
  other = λ c ne. group_other groups at c new ne;
}
  where
    here : (x : Select) → Contains (group_of (set groups at new) at) x ↔ Contains (group_of groups at) x
    here x = subst (λ (ys : List Select). Contains ys x ↔ Contains (group_of groups at) x) (sym (group_same groups at new lt)) (subst (λ (ys : List Select). Contains new.items x ↔ Contains ys x) (group_read groups at old lt is) (same x))

pub all_sorted : (groups : List (Vec Select)) (n : ℕ) → length groups ≤ n → ((c : ℕ) → c < n → Sorted (group_of groups c)) → AreSorted groups
all_sorted groups n le h = λ c. elim (cases_lt c n) [
  | inl lt ↦ h c lt
  | inr past ↦ subst Sorted (sym (group_past groups c (omega (arith, past, le)))) (λ i j d l within. absurd (omega (arith, within)))
]

pub sorted_more : (old new : List (Vec Select)) (n : ℕ) → SortsGroup old new n → ((c : ℕ) → c < n → Sorted (group_of old c)) → (c : ℕ) → c < n + 1 → Sorted (group_of new c)
sorted_more old new n s h c lt = elim (cases_lt c n) [
  | inl low ↦ subst Sorted (sym (s.other c (λ e. omega (arith, e, low)))) (h c low)
  | inr high ↦ let e : c ≡ n = omega (arith, high, lt) in subst (λ j. Sorted (group_of new j)) (sym e) s.sorted
]

pub same_more : (first old new : List (Vec Select)) (n : ℕ) → SortsGroup old new n → ((c : ℕ) (x : Select) → Contains (group_of old c) x ↔ Contains (group_of first c) x) → (c : ℕ) (x : Select) → Contains (group_of new c) x ↔ Contains (group_of first c) x
same_more first old new n s h c x = (λ m. (h c x).0 ((s.same c x).0 m), λ m. (s.same c x).1 ((h c x).1 m))

-- ---- what a class selects for a signature
pub selected_is : (ys zs group : List Select) (selects : List (ℕ × ClassId × Option MethodId)) (class : ClassId) (g : ℕ) → zs ≡ group → ((x : Select) → Contains group x ↔ Contains selects (x.signature, class, x.target))
    → ((x : Select) → Contains ys x ↔ (Contains zs x × (x.signature ≡ g))) → (x : Select) → Contains ys x ↔ (Contains selects (x.signature, class, x.target) × (x.signature ≡ g))
selected_is ys zs group selects class g same groups is x = (
  λ h. let p = (is x).0 h in ((groups x).0 (subst (λ (ws : List Select). Contains ws x) same p.0), p.1),
  λ h. (is x).1 (subst (λ (ws : List Select). Contains ws x) (sym same) ((groups x).1 h.0), h.1),
)

pub nothing_selected : (ys group : List Select) (selects : List (ℕ × ClassId × Option MethodId)) (class : ClassId) (g : ℕ) → ys ≡ [] → group ≡ [] → ((x : Select) → Contains group x ↔ Contains selects (x.signature, class, x.target))
    → (x : Select) → Contains ys x ↔ (Contains selects (x.signature, class, x.target) × (x.signature ≡ g))
nothing_selected ys group selects class g nil none groups x = (
  λ h. absurd (omega (arith, (subst (λ (ws : List Select). Contains ws x) nil h).1)),
  λ h. absurd (omega (arith, (subst (λ (ws : List Select). Contains ws x) none ((groups x).1 h.0)).1)),
)
