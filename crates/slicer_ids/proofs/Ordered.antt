-- A set has one list in order.
use Rattle.std.proofs.Common.{◌≡◌, ◌⊎◌, zero, suc, List, [], ◌∷◌, Contains, refl, sym, subst, ◌∙◌, inl, inr, arith}
use Rattle.std.specs.Prelude.{AllPairs}
use Rattle.std.proofs.lemmas.List.Elements.{All-contains}
use Rattle.slicer_ids.specs.Sets.{IsOrderedListOf}

-- x is the head of a list, or in its tail
pub Contains-cons_cases : {A : Type 0} (x y : A) (xs : List A) → Contains (x ∷ xs) y → (x ≡ y) ⊎ Contains xs y
Contains-cons_cases x y xs (zero, h, e) = inl e
Contains-cons_cases x y xs (suc k, h, e) = inr (k, omega arith, e)

later : {A : Type 0} (x z : A) (xs : List A) → Contains xs z → Contains (x ∷ xs) z
later x z xs c = (suc c.0, omega (arith, c.1), c.2)

-- the head comes before the rest
head_first : {A : Type 0} (B : A → A → Type 0) (x z : A) (xs : List A) → AllPairs B (x ∷ xs) → Contains xs z → B x z
head_first B x z xs order c = subst (B x) c.2 (order 0 (suc c.0) z (omega arith) (omega (arith, c.1)))

module _ {A : Type 0} (B : A → A → Type 0) where
  one_order : (xs ys : List A) → ((a b : A) → Contains xs a → Contains xs b → B a b → B b a → ⊥) → AllPairs B xs → AllPairs B ys
      → ((z : A) → Contains xs z → Contains ys z) → ((z : A) → Contains ys z → Contains xs z) → xs ≡ ys
  one_order [] [] asym p q to from = refl
  one_order [] (y ∷ ys) asym p q to from = absurd (omega (arith, (from y (0, omega arith, refl)).1))
  one_order (x ∷ xs) [] asym p q to from = absurd (omega (arith, (to x (0, omega arith, refl)).1))
  one_order (x ∷ xs) (y ∷ ys) asym p q to from =
      let first : Contains (x ∷ xs) x = (0, omega arith, refl) in
      let second : Contains (y ∷ ys) y = (0, omega arith, refl) in
      let same : x ≡ y = elim (Contains-cons_cases y x ys (to x first)) [
        | inl e ↦ sym e
        | inr c ↦ elim (Contains-cons_cases x y xs (from y second)) [ inl e ↦ e | inr d ↦ absurd (asym y x (from y second) first (head_first B y x ys q c) (head_first B x y xs p d)) ]
      ] in
      let rest = one_order xs ys (λ a b c d. asym a b (later x a xs c) (later x b xs d)) (λ i j d lt within. p (suc i) (suc j) d (omega arith) (omega arith)) (λ i j d lt within. q (suc i) (suc j) d (omega arith) (omega arith))
      (λ z c. elim (Contains-cons_cases y z ys (to z (later x z xs c))) [
        | inl e ↦ let h : B z z = subst (λ w. B w z) (same ∙ e) (head_first B x z xs p c) in absurd (asym z z (later x z xs c) (later x z xs c) h h)
        | inr d ↦ d
      ])
      (λ z c. elim (Contains-cons_cases x z xs (from z (later y z ys c))) [
        | inl e ↦ let h : B z z = subst (λ w. B w z) (sym same ∙ e) (head_first B y z ys q c) in absurd (asym z z (from z (later y z ys c)) (from z (later y z ys c)) h h)
        | inr d ↦ d
      ]) in
      cc (same, rest)

  pub one_ordered : (P : A → Type 0) (xs ys : List A) → ((a b : A) → P a → P b → B a b → B b a → ⊥) → IsOrderedListOf B xs P → IsOrderedListOf B ys P → xs ≡ ys
  one_ordered P xs ys asym p q = one_order xs ys (λ a b c d. asym a b (All-contains P xs a p.each c) (All-contains P xs b p.each d)) p.order q.order (λ z c. q.whole z (All-contains P xs z p.each c)) (λ z c. p.whole z (All-contains P ys z q.each c))
