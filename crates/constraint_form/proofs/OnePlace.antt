-- Places in lists that are in an order.
use Rattle.std.proofs.Common.{◌≡◌, ◌<◌, ℕ, List, get_or, AllPairs, Some, inl, inr, subst, arith}
use Rattle.std.specs.Prelude.{slice_get}
use Rattle.std.proofs.lemmas.Bool.{cases_lt}
use Rattle.std.proofs.lemmas.Option.{slice_get_within, get_or_from_slice_get}

module _ {A : Type 0} (B : A → A → Type 0) (xs : List A) (order : AllPairs B xs) where
  -- what stands at an earlier place comes before
  pub places_before : (i j : ℕ) (x y : A) → i < j → slice_get xs i ≡ Some x → slice_get xs j ≡ Some y → B x y
  places_before i j x y lt e f =
      subst (λ z. B z y) (get_or_from_slice_get xs i x y e)
      (subst (λ z. B (get_or xs i y) z) (get_or_from_slice_get xs j y y f) (order i j y lt (slice_get_within xs j y f)))

  -- nothing stands at two places
  pub one_place : ((x : A) → B x x → ⊥) → (i j : ℕ) (x : A) → slice_get xs i ≡ Some x → slice_get xs j ≡ Some x → i ≡ j
  one_place never i j x e f = elim (cases_lt i j) [
    | inl lt ↦ absurd (never x (places_before i j x x lt e f))
    | inr ge ↦ elim (cases_lt j i) [ inl lt ↦ absurd (never x (places_before j i x x lt f e)) | inr le ↦ omega arith ]
  ]

  -- of two things in the list one is the other, or one comes before
  pub same_or_before : (i j : ℕ) (x y : A) → slice_get xs i ≡ Some x → slice_get xs j ≡ Some y → (B x y → ⊥) → (B y x → ⊥) → i ≡ j
  same_or_before i j x y e f not_first not_second = elim (cases_lt i j) [
    | inl lt ↦ absurd (not_first (places_before i j x y lt e f))
    | inr ge ↦ elim (cases_lt j i) [ inl lt ↦ absurd (not_second (places_before j i y x lt f e)) | inr le ↦ omega arith ]
  ]
