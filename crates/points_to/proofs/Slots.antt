-- Slots in the order of their fields: the search for one, and one more.
use Rattle.std.proofs.Common.{◌≡◌, ◌≢◌, ◌⊎◌, ◌<◌, ◌≤◌, ◌+◌, ◌-◌, ◌^◌, ℕ, zero, suc, Bool, true, false, nat_eq, if◌then◌else◌, List, [], ◌∷◌, ◌++◌, Option, Some, None, length, get_or, set, slice_get, inl, inr, refl, sym, ap, subst, ◌∙◌, arith, eq-eqb, eqb-true}
use Rattle.std.specs.Prelude.{AllPairs, insert}
use Rattle.std.specs.List.Sorted.{IsNonDecreasingBy}
use Rattle.std.specs.Global.{Vec}
use Rattle.std.specs.Option.{option_map_or}
use Rattle.std.proofs.lemmas.Bool.{cases_eq, cases_lt, cases_Bool}
use Rattle.std.proofs.lemmas.Option.{slice_get_read, slice_get_past}
use Rattle.std.proofs.lemmas.List.{length-set}
use Rattle.std.proofs.lemmas.List.Edits.{length-insert, get_or-insert_at, get_or-insert_below, get_or-insert_above}
use Rattle.slicer_ids.specs.declared.ids.FieldId.{FieldId}
use Rattle.points_to.specs.declared.places.Slot.{Slot}
use Rattle.points_to.specs.States.{find_slot, slots_in, AreSorted, AddsSlot, SetsSlot}

abbrev pub Sorted : List Slot → Type 0
Sorted xs = AllPairs (λ (a b : Slot). a.field.0 < b.field.0) xs

tail : (x : Slot) (xs : List Slot) → Sorted (x ∷ xs) → Sorted xs
tail x xs h = λ i j d lt within. h (suc i) (suc j) d (omega arith) (omega arith)

head_below : (x : Slot) (xs : List Slot) → Sorted (x ∷ xs) → (k : ℕ) (d : Slot) → k < length xs → x.field.0 < (get_or xs k d).field.0
head_below x xs h k d lt = h 0 (suc k) d (omega arith) (omega arith)

other_field : (a b : ℕ) → (a ≡ b → ⊥) → nat_eq a b ≡ false
other_field a b ne = elim (cases_Bool (nat_eq a b)) [ inl t ↦ absurd (ne (eqb-true a b t)) | inr f ↦ f ]

pub none_above : (xs : List Slot) (f : FieldId) → ((k : ℕ) (d : Slot) → k < length xs → f.0 < (get_or xs k d).field.0) → find_slot xs f ≡ None
none_above [] f above = refl
none_above (x ∷ xs) f above =
    let e : nat_eq x.field.0 f.0 ≡ false = other_field x.field.0 f.0 (λ q. omega (arith, q, above 0 x (omega arith))) in
    rw e (none_above xs f (λ k d lt. above (suc k) d (omega arith)))

-- the search at the place where the field stands or would stand
pub found_here : (xs : List Slot) (f : FieldId) (at : ℕ) (x : Slot) → Sorted xs → ((k : ℕ) (d : Slot) → k < at → (get_or xs k d).field.0 < f.0)
    → ((k : ℕ) (d : Slot) → at ≤ k → k < length xs → f.0 ≤ (get_or xs k d).field.0) → at < length xs → x ≡ get_or xs at x
    → find_slot xs f ≡ (if nat_eq x.field.0 f.0 then Some x.row else None)
found_here [] f at x h before after lt is = absurd (omega (arith, lt))
found_here (y ∷ ys) f zero x h before after lt is =
    let none : nat_eq x.field.0 f.0 ≡ false → find_slot ys f ≡ None = λ e. none_above ys f (λ k d within. let le = after 0 y (omega arith) (omega arith) in omega (arith, le, head_below y ys h k d within)) in
    elim (cases_Bool (nat_eq x.field.0 f.0)) [
      | inl e ↦ let e' : nat_eq y.field.0 f.0 ≡ true = ap (λ (z : Slot). nat_eq z.field.0 f.0) (sym is) ∙ e in rw (e, e') (ap (λ (z : Slot). Some z.row) (sym is))
      | inr e ↦ let e' : nat_eq y.field.0 f.0 ≡ false = ap (λ (z : Slot). nat_eq z.field.0 f.0) (sym is) ∙ e in rw (e, e') (none e)
    ]
found_here (y ∷ ys) f (suc at) x h before after lt is =
    let e : nat_eq y.field.0 f.0 ≡ false = other_field y.field.0 f.0 (λ q. omega (arith, q, before 0 y (omega arith))) in
    rw e (found_here ys f at x (tail y ys h) (λ k d below. before (suc k) d (omega arith)) (λ k d le within. after (suc k) d (omega arith) (omega arith)) (omega arith) is)

-- .. where none stands so high
pub found_nowhere : (xs : List Slot) (f : FieldId) (at : ℕ) → ((k : ℕ) (d : Slot) → k < at → (get_or xs k d).field.0 < f.0) → length xs ≤ at → find_slot xs f ≡ None
found_nowhere [] f at before le = refl
found_nowhere (y ∷ ys) f zero before le = absurd (omega (arith, le))
found_nowhere (y ∷ ys) f (suc at) before le =
    let e : nat_eq y.field.0 f.0 ≡ false = other_field y.field.0 f.0 (λ q. omega (arith, q, before 0 y (omega arith))) in
    rw e (found_nowhere ys f at (λ k d below. before (suc k) d (omega arith)) (omega arith))

-- a field that the search misses stands nowhere
missed : (xs : List Slot) (f : FieldId) → find_slot xs f ≡ None → (k : ℕ) (d : Slot) → k < length xs → (get_or xs k d).field.0 ≡ f.0 → ⊥
missed [] f none k d lt e = omega (arith, lt)
missed (x ∷ xs) f none zero d lt e = let t : nat_eq x.field.0 f.0 ≡ true = eq-eqb x.field.0 f.0 e in absurd (some_none (rw t at none))
  where
    some_none : Some x.row ≡ None → ⊥
    some_none q = absurd cc
missed (x ∷ xs) f none (suc k) d lt e = elim (cases_Bool (nat_eq x.field.0 f.0)) [
  | inl t ↦ absurd (some_none (rw t at none))
  | inr t ↦ missed xs f (rw t at none) k d (omega (arith, lt)) e
]
  where
    some_none : Some x.row ≡ None → ⊥
    some_none q = absurd cc

-- ---- one more
find_other : (xs : List Slot) (at : ℕ) (slot : Slot) (f : FieldId) → f.0 ≢ slot.field.0 → find_slot (insert xs at slot) f ≡ find_slot xs f
find_other xs zero slot f ne = let e : nat_eq slot.field.0 f.0 ≡ false = other_field slot.field.0 f.0 (λ q. ne (sym q)) in rw e refl
find_other [] (suc at) slot f ne = let e : nat_eq slot.field.0 f.0 ≡ false = other_field slot.field.0 f.0 (λ q. ne (sym q)) in rw e refl
find_other (x ∷ xs) (suc at) slot f ne = elim (cases_Bool (nat_eq x.field.0 f.0)) [
  | inl e ↦ rw e refl
  | inr e ↦ rw e (find_other xs at slot f ne)
]

find_same : (xs : List Slot) (at : ℕ) (slot : Slot) → ((k : ℕ) (d : Slot) → k < at → (get_or xs k d).field.0 < slot.field.0) → at ≤ length xs → find_slot (insert xs at slot) slot.field ≡ Some slot.row
find_same xs zero slot before le = let e : nat_eq slot.field.0 slot.field.0 ≡ true = eq-eqb slot.field.0 slot.field.0 refl in rw e refl
find_same [] (suc at) slot before le = absurd (omega (arith, le))
find_same (x ∷ xs) (suc at) slot before le =
    let e : nat_eq x.field.0 slot.field.0 ≡ false = other_field x.field.0 slot.field.0 (λ q. omega (arith, q, before 0 x (omega arith))) in
    rw e (find_same xs at slot (λ k d lt. before (suc k) d (omega arith)) (omega (arith, le)))

inserted_sorted : (xs : List Slot) (at : ℕ) (slot : Slot) → Sorted xs → at ≤ length xs → ((k : ℕ) (d : Slot) → k < at → (get_or xs k d).field.0 < slot.field.0)
    → ((k : ℕ) (d : Slot) → at ≤ k → k < length xs → slot.field.0 < (get_or xs k d).field.0) → length (insert xs at slot) ≡ length xs + 1 → Sorted (insert xs at slot)
inserted_sorted xs at slot h le before after len = λ i j d lt within. pairs i j d lt (omega (arith, within, len))
  where
    below : (k : ℕ) (d : Slot) → k < at → get_or (insert xs at slot) k d ≡ get_or xs k d
    below k d lt = get_or-insert_below xs at slot d k lt le

    here : (d : Slot) → get_or (insert xs at slot) at d ≡ slot
    here d = get_or-insert_at xs at slot d le

    above : (k : ℕ) (d : Slot) → at < k → get_or (insert xs at slot) k d ≡ get_or xs (k - 1) d
    above k d lt = let e : k ≡ k - 1 + 1 = omega (arith, lt) in ap (λ n. get_or (insert xs at slot) n d) e ∙ get_or-insert_above xs at slot d (k - 1) (omega (arith, lt)) le

    pairs : (i j : ℕ) (d : Slot) → i < j → j < length xs + 1 → (get_or (insert xs at slot) i d).field.0 < (get_or (insert xs at slot) j d).field.0
    pairs i j d lt within = elim (cases_lt i at) [
      | inl low ↦ rw (below i d low) (elim (cases_lt j at) [
        | inl low' ↦ rw (below j d low') (h i j d lt (omega (arith, low', le)))
        | inr high ↦ elim (cases_eq j at) [
          | inl e ↦ rw (e, here d) (before i d low)
          | inr ne ↦ rw (above j d (omega (arith, high, ne))) (h i (j - 1) d (omega (arith, low, high, ne)) (omega (arith, within, lt)))
        ]
      ])
      | inr high ↦ rw (above j d (omega (arith, high, lt))) (elim (cases_eq i at) [
        | inl e ↦ rw (e, here d) (after (j - 1) d (omega (arith, high, lt)) (omega (arith, within, lt)))
        | inr ne ↦ rw (above i d (omega (arith, high, ne))) (h (i - 1) (j - 1) d (omega (arith, high, ne, lt)) (omega (arith, within, lt)))
      ])
    ]

pub slot_added : (xs : List Slot) (at : ℕ) (slot : Slot) → Sorted xs → find_slot xs slot.field ≡ None → at ≤ length xs → ((k : ℕ) (d : Slot) → k < at → (get_or xs k d).field.0 < slot.field.0)
    → ((k : ℕ) (d : Slot) → at ≤ k → k < length xs → slot.field.0 ≤ (get_or xs k d).field.0) → length (insert xs at slot) ≡ length xs + 1 → AddsSlot xs (insert xs at slot) slot
slot_added xs at slot h none le before after len = record {
  is = find_same xs at slot before le;
  other = λ f ne. find_other xs at slot f (λ e. ne (ap (λ (n : ℕ). numbered n) e));
  sorted = inserted_sorted xs at slot h le before (λ k d low within. let q = after k d low within in let ne = missed xs slot.field none k d within in strictly slot.field.0 (get_or xs k d).field.0 q ne) len;
}
  where
    numbered : ℕ → FieldId
    numbered n = record { 0 = n }

    strictly : (a b : ℕ) → a ≤ b → (b ≡ a → ⊥) → a < b
    strictly a b le ne = elim (cases_eq b a) [ inl e ↦ absurd (ne e) | inr o ↦ omega (arith, le, o) ]

pub slot_added_at : (xs ys zs : List Slot) (at : ℕ) (slot : Slot) → ys ≡ xs → Sorted xs → find_slot xs slot.field ≡ None → at ≤ length ys → ((k : ℕ) (d : Slot) → k < at → (get_or ys k d).field.0 < slot.field.0)
    → ((k : ℕ) (d : Slot) → at ≤ k → k < length ys → slot.field.0 ≤ (get_or ys k d).field.0) → zs ≡ insert xs at slot → AddsSlot xs zs slot
slot_added_at xs ys zs at slot same h none le before after is = subst (λ (ws : List Slot). AddsSlot xs ws slot) (sym is)
    (slot_added xs at slot h none (subst (λ (ws : List Slot). at ≤ length ws) same le)
    (subst (λ (ws : List Slot). (k : ℕ) (d : Slot) → k < at → (get_or ws k d).field.0 < slot.field.0) same before)
    (subst (λ (ws : List Slot). (k : ℕ) (d : Slot) → at ≤ k → k < length ws → slot.field.0 ≤ (get_or ws k d).field.0) same after)
    (length-insert xs at slot (subst (λ (ws : List Slot). at ≤ length ws) same le)))

pub non_decreasing : (xs : List Slot) → Sorted xs → IsNonDecreasingBy (λ (s : Slot). s.field.0) xs
non_decreasing xs h = λ i j d le within. elim (cases_eq i j) [
  | inl e ↦ let q : (get_or xs i d).field.0 ≡ (get_or xs j d).field.0 = ap (λ n. (get_or xs n d).field.0) e in omega (arith, q)
  | inr ne ↦ let lt = h i j d (omega (arith, le, ne)) within in omega (arith, lt)
]

-- ---- the slots of a site
pub get_set_same : {X : Type 0} (xs : List X) (i : ℕ) (x : X) → i < length xs → slice_get (set xs i x) i ≡ Some x
get_set_same {X} [] i x lt = absurd (omega (arith, lt))
get_set_same {X} (y ∷ ys) zero x lt = refl
get_set_same {X} (y ∷ ys) (suc i) x lt = get_set_same ys i x (omega (arith, lt))

pub get_set_other : {X : Type 0} (xs : List X) (i j : ℕ) (x : X) → j ≢ i → slice_get (set xs i x) j ≡ slice_get xs j
get_set_other {X} [] i j x ne = refl
get_set_other {X} (y ∷ ys) zero zero x ne = absurd (ne refl)
get_set_other {X} (y ∷ ys) zero (suc j) x ne = refl
get_set_other {X} (y ∷ ys) (suc i) zero x ne = refl
get_set_other {X} (y ∷ ys) (suc i) (suc j) x ne = get_set_other ys i j x (λ e. ne (ap (λ n. suc n) e))

slots_same : (cells : List (Vec Slot)) (i : ℕ) (row : Vec Slot) → i < length cells → slots_in (set cells i row) i ≡ row.items
slots_same cells i row lt = ap (λ o. option_map_or (λ (v : Vec Slot). v.items) o []) (get_set_same cells i row lt)

slots_other : (cells : List (Vec Slot)) (i j : ℕ) (row : Vec Slot) → j ≢ i → slots_in (set cells i row) j ≡ slots_in cells j
slots_other cells i j row ne = ap (λ o. option_map_or (λ (v : Vec Slot). v.items) o []) (get_set_other cells i j row ne)

pub slots_read : (cells : List (Vec Slot)) (i : ℕ) (row : Vec Slot) → i < length cells → row ≡ get_or cells i row → row.items ≡ slots_in cells i
slots_read cells i row lt e = sym (ap (λ o. option_map_or (λ (v : Vec Slot). v.items) o []) (slice_get_read cells (length cells) i row refl lt e))

pub slots_past : (cells : List (Vec Slot)) (i : ℕ) → length cells ≤ i → slots_in cells i ≡ []
slots_past cells i le = ap (λ o. option_map_or (λ (v : Vec Slot). v.items) o []) (slice_get_past cells i le)

pub slot_set : (old mid : List (Vec Slot)) (o : ℕ) (slot : Slot) (row : Vec Slot) → ((k : ℕ) → slots_in mid k ≡ slots_in old k) → o < length mid → (o < 2 ^ 32 → length old ≤ 2 ^ 32 → length mid ≤ 2 ^ 32) → AddsSlot (slots_in mid o) row.items slot → SetsSlot old (set mid o row) o slot
slot_set old mid o slot row same lt few adds = record {
  is = ap (λ xs. find_slot xs slot.field) (slots_same mid o row lt) ∙ adds.is;
  other = λ k f ne. elim (cases_eq k o) [
    | inl e ↦ elim ne [
      | inl n ↦ absurd (n e)
      | inr n ↦ subst (λ j. find_slot (slots_in (set mid o row) j) f ≡ find_slot (slots_in old j) f) (sym e) (ap (λ xs. find_slot xs f) (slots_same mid o row lt) ∙ adds.other f n ∙ ap (λ xs. find_slot xs f) (same o))
    ]
    | inr n ↦ ap (λ xs. find_slot xs f) (slots_other mid o k row n ∙ same k)
  ];
  sorted = λ h k. elim (cases_eq k o) [
    | inl e ↦ subst (λ j. Sorted (slots_in (set mid o row) j)) (sym e) (subst Sorted (sym (slots_same mid o row lt)) adds.sorted)
    | inr n ↦ subst Sorted (sym (slots_other mid o k row n ∙ same k)) (h k)
  ];
  few = λ small le. subst (λ n. n ≤ 2 ^ 32) (sym (length-set mid o row)) (few small le);
}
