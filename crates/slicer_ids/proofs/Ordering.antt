-- A set of which is decided, for each item of a list, whether it is a member, and whose members are all in the list, is a list in order.
use Rattle.std.proofs.Common.{◌≡◌, ◌⊎◌, suc, List, [], ◌∷◌, get_or, Contains, All, AllPairs, refl, sym, subst, inl, inr, arith}
use Rattle.std.proofs.lemmas.List.Elements.{Contains-get_or}
use Rattle.std.proofs.lemmas.List.Kept.{AllPairs-cons}
use Rattle.slicer_ids.specs.Sets.{IsOrderedListOf}
use Rattle.slicer_ids.proofs.Ordered.{Contains-cons_cases}

abbrev pub Decided : Type 0 → Type 0
Decided P = P ⊎ (P → ⊥)

later : {A : Type 0} (x z : A) (xs : List A) → Contains xs z → Contains (x ∷ xs) z
later x z xs c = (suc c.0, omega (arith, c.1), c.2)

pub all_of : {A : Type 0} (P : A → Type 0) (xs : List A) → ((x : A) → Contains xs x → P x) → All P xs
all_of P xs each = λ k d lt. each (get_or xs k d) (Contains-get_or xs k d lt)

module _ {A : Type 0} (B : A → A → Type 0) (trans : (a b c : A) → B a b → B b c → B a c) (one_first : (a b : A) → B a b ⊎ ((a ≡ b) ⊎ B b a)) where
  before_rest : (x : A) (xs : List A) → AllPairs B (x ∷ xs) → (y : A) → Contains xs y → B x y
  before_rest x xs order y (k, lt, e) = subst (B x) e (order 0 (suc k) y (omega arith) (omega (arith, lt)))

  rest_order : (x : A) (xs : List A) → AllPairs B (x ∷ xs) → AllPairs B xs
  rest_order x xs order = λ i j d lt within. order (suc i) (suc j) d (omega (arith, lt)) (omega (arith, within))

  -- a list in order with one member more
  abbrev With : A → List A → Type 0
  With x xs = (ys : List A) × AllPairs B ys × ((y : A) → Contains ys y → (x ≡ y) ⊎ Contains xs y) × Contains ys x × ((y : A) → Contains xs y → Contains ys y)

  insert : (x : A) (xs : List A) → AllPairs B xs → With x xs
  insert x [] order =
      (x ∷ [], λ i j d lt within. absurd (omega (arith, lt, within)), λ y c. Contains-cons_cases x y [] c, (0, omega arith, refl), λ y c. absurd (omega (arith, c.1)))
  insert x (z ∷ zs) order = elim (one_first x z) [
    | inl first ↦
        let each : (y : A) → Contains (z ∷ zs) y → B x y = λ y c. elim (Contains-cons_cases z y zs c) [ inl e ↦ subst (B x) e first | inr more ↦ trans x z y first (before_rest z zs order y more) ] in
        (x ∷ z ∷ zs, AllPairs-cons B x (z ∷ zs) (all_of (B x) (z ∷ zs) each) order, λ y c. Contains-cons_cases x y (z ∷ zs) c, (0, omega arith, refl), λ y c. later x y (z ∷ zs) c)
    | inr other ↦ elim other [
      | inl same ↦ (z ∷ zs, order, λ y c. inr c, (0, omega arith, sym same), λ y c. c)
      | inr behind ↦
          let (ys, ordered, only, there, kept) = insert x zs (rest_order z zs order) in
          let each : (y : A) → Contains ys y → B z y = λ y c. elim (only y c) [ inl e ↦ subst (B z) e behind | inr more ↦ before_rest z zs order y more ] in (
            z ∷ ys,
            AllPairs-cons B z ys (all_of (B z) ys each) ordered,
            λ y c. elim (Contains-cons_cases z y ys c) [ inl e ↦ inr (0, omega arith, e) | inr more ↦ elim (only y more) [ inl e ↦ inl e | inr old ↦ inr (later z y zs old) ] ],
            later z x ys there,
            λ y c. elim (Contains-cons_cases z y zs c) [ inl e ↦ (0, omega arith, e) | inr more ↦ later z y ys (kept y more) ],
          )
    ]
  ]

  -- those items of the list that are members
  abbrev Chosen : (A → Type 0) → List A → Type 0
  Chosen P xs = (ys : List A) × AllPairs B ys × ((y : A) → Contains ys y → P y) × ((y : A) → Contains xs y → P y → Contains ys y)

  choose : (P : A → Type 0) (xs : List A) → ((x : A) → Contains xs x → Decided (P x)) → Chosen P xs
  choose P [] decide = ([], λ i j d lt within. absurd (omega (arith, within)), λ y c. absurd (omega (arith, c.1)), λ y c p. c)
  choose P (x ∷ xs) decide =
      let (ys, order, members, whole) = choose P xs (λ y c. decide y (later x y xs c)) in
      elim (decide x (0, omega arith, refl)) [
        | inl is ↦
            let (zs, ordered, only, there, kept) = insert x ys order in (
              zs,
              ordered,
              λ y c. elim (only y c) [ inl e ↦ subst P e is | inr old ↦ members y old ],
              λ y c p. elim (Contains-cons_cases x y xs c) [ inl e ↦ subst (Contains zs) e there | inr more ↦ kept y (whole y more p) ],
            )
        | inr never ↦ (ys, order, members, λ y c p. elim (Contains-cons_cases x y xs c) [ inl e ↦ absurd (never (subst P (sym e) p)) | inr more ↦ whole y more p ])
      ]

  pub in_order : (P : A → Type 0) (xs : List A) → ((x : A) → Contains xs x → Decided (P x)) → ((x : A) → P x → Contains xs x) → (ys : List A) × IsOrderedListOf B ys P
  in_order P xs decide among =
      let (ys, order, members, whole) = choose P xs decide in
      (ys, record { each = all_of P ys members; order = order; whole = λ y p. whole y (among y p) p })
