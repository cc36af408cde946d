-- The cells, read in order.
use Rattle.std.proofs.Common.{◌≡◌, ◌⊎◌, ◌<◌, ◌≤◌, ◌+◌, ℕ, zero, suc, true, false, nat_eq, List, [], ◌∷◌, ◌++◌, Option, Some, None, Contains, length, get_or, take, inl, inr, refl, sym, ap, subst, ◌∙◌, arith, eqb-true}
use Rattle.std.specs.Prelude.{AllPairs}
use Rattle.std.proofs.lemmas.Bool.{cases_lt, cases_Bool}
use Rattle.std.proofs.lemmas.List.{take_more, take_all, get_or-take, get_or_default, length-take}
use Rattle.std.proofs.lemmas.List.Elements.{All-contains, Contains-append_left, Contains-push, Contains-push_cases}
use Rattle.slicer_ids.specs.Sets.{IsOrderedListOf}
use Rattle.slicer_ids.specs.declared.ids.FieldId.{FieldId}
use Rattle.slicer_ids.specs.declared.ids.SiteId.{SiteId}
use Rattle.slicer_ids.proofs.GrowingOrder.{pushed, reworded, without}
use Rattle.dep_form.specs.Solutions.{CellBefore}
use Rattle.points_to.specs.declared.found.Found.{Found}
use Rattle.points_to.specs.declared.place.Place.TheVariants.{Cell}
use Rattle.points_to.specs.declared.places.Slot.{Slot}
use Rattle.points_to.specs.Items.{At}
use Rattle.points_to.specs.Solved.{AreCells, AreCellsUpTo, IsBelow, KnowsCell}
use Rattle.points_to.specs.States.{Knows, find_slot, slots_in}
use Rattle.points_to.proofs.Slots.{Sorted, slots_past}

abbrev object : ℕ → SiteId
object n = record { 0 = n }

abbrev field : ℕ → FieldId
field n = record { 0 = n }

abbrev triple : SiteId → FieldId → SiteId → SiteId × FieldId × SiteId
triple a b c = (a, b, c)

-- the cells before a field of an object, and that field with the first numbers of a list
abbrev pub AreCellsWith : Found → SiteId → FieldId → List ℕ → List (SiteId × FieldId × SiteId) → Type 0
AreCellsWith st o f numbers xs = IsOrderedListOf CellBefore xs (λ x. (IsBelow o.0 f.0 x × KnowsCell st x) ⊎ ((x.0 ≡ o) × (x.1 ≡ f) × Contains numbers x.2.0))

module _ (st : Found) (o : SiteId) (f : FieldId) where
  abbrev With : List ℕ → SiteId × FieldId × SiteId → Type 0
  With numbers x = (IsBelow o.0 f.0 x × KnowsCell st x) ⊎ ((x.0 ≡ o) × (x.1 ≡ f) × Contains numbers x.2.0)

  pub first_cell : (xs : List (SiteId × FieldId × SiteId)) → AreCellsUpTo st o.0 f.0 xs → AreCellsWith st o f [] xs
  first_cell xs h = reworded CellBefore xs (λ x. IsBelow o.0 f.0 x × KnowsCell st x) (With []) (λ x p. inl p) (λ x p. elim p [ inl q ↦ q | inr q ↦ absurd (omega (arith, q.2.1)) ]) h

  pub one_cell : (numbers : List ℕ) (i n : ℕ) (xs ys : List (SiteId × FieldId × SiteId)) → AllPairs (λ a b. a < b) numbers → i < length numbers → n ≡ get_or numbers i n → ys ≡ xs ++ triple o f (object n) ∷ []
      → AreCellsWith st o f (take i numbers) xs → AreCellsWith st o f (take (i + 1) numbers) ys
  one_cell numbers i n xs ys rise lt at is h = subst (λ (zs : List (SiteId × FieldId × SiteId)). AreCellsWith st o f (take (i + 1) numbers) zs) (sym is)
      (pushed CellBefore xs (triple o f (object n)) (With (take i numbers)) (With (take (i + 1) numbers)) h before more (inr (refl, refl, new)) only)
    where
      grown : take (i + 1) numbers ≡ take i numbers ++ n ∷ []
      grown = take_more numbers i n lt ∙ ap (λ m. take i numbers ++ m ∷ []) (sym at)

      new : Contains (take (i + 1) numbers) n
      new = subst (λ (zs : List ℕ). Contains zs n) (sym grown) (Contains-push (take i numbers) n)

      lower : (a : ℕ) → Contains (take i numbers) a → a < n
      lower a p =
          let q = length-take i numbers in
          let k : p.0 < i = omega (arith, p.1, q) in
          let e : get_or numbers p.0 a ≡ a = sym (get_or-take i numbers p.0 a k) ∙ p.2 in
          let e' : get_or numbers i a ≡ n = get_or_default numbers i a n lt ∙ sym at in
          omega (arith, e, e', rise p.0 i a k lt)

      before : (x : SiteId × FieldId × SiteId) → With (take i numbers) x → CellBefore x (triple o f (object n))
      before x (inl (inl b, k)) = inl b
      before x (inl (inr b, k)) = inr (ap (λ (m : ℕ). object m) b.0, inl b.1)
      before x (inr p) = inr (p.0, inr (p.1, lower x.2.0 p.2))

      more : (x : SiteId × FieldId × SiteId) → With (take i numbers) x → With (take (i + 1) numbers) x
      more x (inl p) = inl p
      more x (inr p) = inr (p.0, p.1, subst (λ (zs : List ℕ). Contains zs x.2.0) (sym grown) (Contains-append_left (take i numbers) (n ∷ []) x.2.0 p.2))

      only : (x : SiteId × FieldId × SiteId) → With (take (i + 1) numbers) x → With (take i numbers) x ⊎ (triple o f (object n) ≡ x)
      only x (inl p) = inl (inl p)
      only x (inr p) = elim (Contains-push_cases (take i numbers) n x.2.0 (subst (λ (zs : List ℕ). Contains zs x.2.0) grown p.2)) [
        | inl c ↦ inl (inr (p.0, p.1, c))
        | inr e ↦ inr (same (sym p.0) (sym p.1) (ap (λ (m : ℕ). object m) e))
      ]
        where
          same : {a d : SiteId} {b e : FieldId} {c g : SiteId} → a ≡ d → b ≡ e → c ≡ g → triple a b c ≡ triple d e g
          same {a} {d} {b} {e} {c} {g} u v w = ap (λ y. triple y b c) u ∙ ap (λ y. triple d y c) v ∙ ap (λ y. triple d e y) w

  pub last_cell : (numbers : List ℕ) (xs : List (SiteId × FieldId × SiteId)) → IsOrderedListOf (λ a b. a < b) numbers (λ n. Knows st (At (Cell o f) n)) → AreCellsWith st o f numbers xs → AreCellsUpTo st o.0 (f.0 + 1) xs
  last_cell numbers xs list h = reworded CellBefore xs (With numbers) (λ x. IsBelow o.0 (f.0 + 1) x × KnowsCell st x) to from h
    where
      to : (x : SiteId × FieldId × SiteId) → With numbers x → IsBelow o.0 (f.0 + 1) x × KnowsCell st x
      to x (inl (inl b, k)) = (inl b, k)
      to x (inl (inr b, k)) = (inr (b.0, omega (arith, b.1)), k)
      to x (inr p) =
          let e : x.0.0 ≡ o.0 = ap (λ (s : SiteId). s.0) p.0 in
          let e' : x.1.0 ≡ f.0 = ap (λ (g : FieldId). g.0) p.1 in
          let k = All-contains (λ n. Knows st (At (Cell o f) n)) numbers x.2.0 list.each p.2 in
          (inr (e, omega (arith, e')), subst (λ (s : SiteId). Knows st (At (Cell s x.1) x.2.0)) (sym p.0) (subst (λ (g : FieldId). Knows st (At (Cell o g) x.2.0)) (sym p.1) k))

      from : (x : SiteId × FieldId × SiteId) → IsBelow o.0 (f.0 + 1) x × KnowsCell st x → With numbers x
      from x (inl b, k) = inl (inl b, k)
      from x (inr b, k) = elim (cases_lt x.1.0 f.0) [
        | inl lt ↦ inl (inr (b.0, lt), k)
        | inr le ↦
            let so : x.0 ≡ o = ap (λ (m : ℕ). object m) b.0 in
            let sf : x.1 ≡ f = ap (λ (m : ℕ). field m) (omega (arith, le, b.1)) in
            inr (so, sf, list.whole x.2.0 (subst (λ (g : FieldId). Knows st (At (Cell o g) x.2.0)) sf (subst (λ (s : SiteId). Knows st (At (Cell s x.1) x.2.0)) so k)))
      ]

module _ (st : Found) (o : ℕ) (xs : List (SiteId × FieldId × SiteId)) where
  -- no field of the object stands from b on, and before f
  up_to : (b f : ℕ) → b ≤ f → ((g : FieldId) (r : ℕ) → b ≤ g.0 → g.0 < f → find_slot (slots_in st.places.cells.items o) g ≡ Some r → ⊥) → AreCellsUpTo st o b xs → AreCellsUpTo st o f xs
  up_to b f le none h = reworded CellBefore xs (λ x. IsBelow o b x × KnowsCell st x) (λ x. IsBelow o f x × KnowsCell st x) to from h
    where
      to : (x : SiteId × FieldId × SiteId) → IsBelow o b x × KnowsCell st x → IsBelow o f x × KnowsCell st x
      to x (inl p, k) = (inl p, k)
      to x (inr p, k) = (inr (p.0, omega (arith, p.1, le)), k)

      from : (x : SiteId × FieldId × SiteId) → IsBelow o f x × KnowsCell st x → IsBelow o b x × KnowsCell st x
      from x (inl p, k) = (inl p, k)
      from x (inr p, k) = elim (cases_lt x.1.0 b) [
        | inl lt ↦ (inr (p.0, lt), k)
        | inr ge ↦ absurd (none x.1 k.0 ge p.1 (subst (λ m. find_slot (slots_in st.places.cells.items m) x.1 ≡ Some k.0) p.0 k.1))
      ]

  past : (b : ℕ) → ((g : FieldId) (r : ℕ) → b ≤ g.0 → find_slot (slots_in st.places.cells.items o) g ≡ Some r → ⊥) → AreCellsUpTo st o b xs → AreCellsUpTo st (o + 1) 0 xs
  past b none h = reworded CellBefore xs (λ x. IsBelow o b x × KnowsCell st x) (λ x. IsBelow (o + 1) 0 x × KnowsCell st x) to from h
    where
      to : (x : SiteId × FieldId × SiteId) → IsBelow o b x × KnowsCell st x → IsBelow (o + 1) 0 x × KnowsCell st x
      to x (inl p, k) = (inl (omega (arith, p)), k)
      to x (inr p, k) = (inl (omega (arith, p.0)), k)

      from : (x : SiteId × FieldId × SiteId) → IsBelow (o + 1) 0 x × KnowsCell st x → IsBelow o b x × KnowsCell st x
      from x (inr p, k) = absurd (omega (arith, p.1))
      from x (inl p, k) = elim (cases_lt x.0.0 o) [
        | inl lt ↦ (inl lt, k)
        | inr ge ↦ let e : x.0.0 ≡ o = omega (arith, ge, p) in elim (cases_lt x.1.0 b) [
          | inl lt ↦ (inr (e, lt), k)
          | inr high ↦ absurd (none x.1 k.0 high (subst (λ m. find_slot (slots_in st.places.cells.items m) x.1 ≡ Some k.0) e k.1))
        ]
      ]

  pub all_cells : length st.places.cells.items ≤ o → AreCellsUpTo st o 0 xs → AreCells st xs
  all_cells le h = reworded CellBefore xs (λ x. IsBelow o 0 x × KnowsCell st x) (KnowsCell st) (λ x p. p.1) from h
    where
      from : (x : SiteId × FieldId × SiteId) → KnowsCell st x → IsBelow o 0 x × KnowsCell st x
      from x k = elim (cases_lt x.0.0 o) [
        | inl lt ↦ (inl lt, k)
        | inr ge ↦
            let none : find_slot (slots_in st.places.cells.items x.0.0) x.1 ≡ None = ap (λ ss. find_slot ss x.1) (slots_past st.places.cells.items x.0.0 (omega (arith, ge, le))) in
            let some : find_slot (slots_in st.places.cells.items x.0.0) x.1 ≡ Some k.0 = k.1 in
            absurd (grind (arith, none, some))
      ]

-- a field that is found stands somewhere
stands : (ss : List Slot) (g : FieldId) (r : ℕ) → find_slot ss g ≡ Some r → (k : ℕ) × (k < length ss) × ((d : Slot) → (get_or ss k d).field.0 ≡ g.0)
stands [] g r e = absurd (grind (arith, e))
stands (s ∷ ss) g r e = elim (cases_Bool (nat_eq s.field.0 g.0)) [
  | inl t ↦ (0, omega arith, λ d. eqb-true s.field.0 g.0 t)
  | inr t ↦ let h = stands ss g r (rw t at e) in (suc h.0, omega (arith, h.1), h.2)
]

-- the cells of the slots before slot j
abbrev pub AreCellsOf : Found → ℕ → List Slot → ℕ → List (SiteId × FieldId × SiteId) → Type 0
AreCellsOf st o ss j xs = (b : ℕ) × AreCellsUpTo st o b xs × ((k : ℕ) (d : Slot) → k < j → (get_or ss k d).field.0 < b) × ((k : ℕ) (d : Slot) → j ≤ k → k < length ss → b ≤ (get_or ss k d).field.0)

pub no_slots : (st : Found) (o : ℕ) (ss : List Slot) (xs : List (SiteId × FieldId × SiteId)) → AreCellsUpTo st o 0 xs → AreCellsOf st o ss 0 xs
no_slots st o ss xs h = (0, h, λ k d lt. absurd (omega (arith, lt)), λ k d le lt. omega arith)

module _ (st : Found) (o : ℕ) (ss : List Slot) (j : ℕ) (slot : Slot) (is : ss ≡ slots_in st.places.cells.items o) (sorted : Sorted ss) where
  -- up to the field of slot j
  pub to_slot : (xs : List (SiteId × FieldId × SiteId)) → j < length ss → slot ≡ get_or ss j slot → AreCellsOf st o ss j xs → AreCellsUpTo st o slot.field.0 xs
  to_slot xs lt at (b, h, low, high) = up_to st o xs b slot.field.0 (let q = high j slot (omega arith) lt in omega (arith, q, ap (λ (s : Slot). s.field.0) at)) none h
    where
      none : (g : FieldId) (r : ℕ) → b ≤ g.0 → g.0 < slot.field.0 → find_slot (slots_in st.places.cells.items o) g ≡ Some r → ⊥
      none g r ge below e =
          let k = stands ss g r (subst (λ (zs : List Slot). find_slot zs g ≡ Some r) (sym is) e) in
          elim (cases_lt k.0 j) [
            | inl lo ↦ let q = low k.0 slot lo in omega (arith, q, k.2 slot, ge)
            | inr hi ↦ elim (cases_lt j k.0) [
              | inl more ↦ let q = sorted j k.0 slot more k.1 in omega (arith, q, k.2 slot, below, ap (λ (s : Slot). s.field.0) at)
              | inr less ↦ let same : k.0 ≡ j = omega (arith, hi, less) in
                  let q : (get_or ss j slot).field.0 ≡ g.0 = subst (λ m. (get_or ss m slot).field.0 ≡ g.0) same (k.2 slot) in omega (arith, q, below, ap (λ (s : Slot). s.field.0) at)
            ]
          ]

  pub one_slot : (xs ys : List (SiteId × FieldId × SiteId)) → j < length ss → slot ≡ get_or ss j slot → AreCellsOf st o ss j xs → AreCellsUpTo st o (slot.field.0 + 1) ys → AreCellsOf st o ss (j + 1) ys
  one_slot xs ys lt at (b, h, low, high) new = (slot.field.0 + 1, new, lower, higher)
    where
      lower : (k : ℕ) (d : Slot) → k < j + 1 → (get_or ss k d).field.0 < slot.field.0 + 1
      lower k d l = elim (cases_lt k j) [
        | inl lo ↦ let q = sorted k j d lo lt in let e : get_or ss j d ≡ slot = get_or_default ss j d slot lt ∙ sym at in omega (arith, q, ap (λ (s : Slot). s.field.0) e)
        | inr hi ↦ let same : k ≡ j = omega (arith, hi, l) in let e : get_or ss k d ≡ slot = ap (λ m. get_or ss m d) same ∙ get_or_default ss j d slot lt ∙ sym at in omega (arith, ap (λ (s : Slot). s.field.0) e)
      ]

      higher : (k : ℕ) (d : Slot) → j + 1 ≤ k → k < length ss → slot.field.0 + 1 ≤ (get_or ss k d).field.0
      higher k d le l = let q = sorted j k d (omega (arith, le)) l in let e : get_or ss j d ≡ slot = get_or_default ss j d slot lt ∙ sym at in omega (arith, q, ap (λ (s : Slot). s.field.0) e)

  pub all_slots : (xs : List (SiteId × FieldId × SiteId)) → length ss ≤ j → AreCellsOf st o ss j xs → AreCellsUpTo st (o + 1) 0 xs
  all_slots xs le (b, h, low, high) = past st o xs b none h
    where
      none : (g : FieldId) (r : ℕ) → b ≤ g.0 → find_slot (slots_in st.places.cells.items o) g ≡ Some r → ⊥
      none g r ge e =
          let k = stands ss g r (subst (λ (zs : List Slot). find_slot zs g ≡ Some r) (sym is) e) in
          let q = low k.0 slot (omega (arith, k.1, le)) in omega (arith, q, k.2 slot, ge)

pub no_cells : (st : Found) (xs : List (SiteId × FieldId × SiteId)) → xs ≡ [] → AreCellsUpTo st 0 0 xs
no_cells st xs nil = without CellBefore xs (λ x. IsBelow 0 0 x × KnowsCell st x) nil (λ x p. elim p.0 [ inl b ↦ omega (arith, b) | inr b ↦ omega (arith, b.1) ])
