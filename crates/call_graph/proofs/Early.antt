-- Loops that end where something is found.
use Rattle.std.proofs.Common.{◌≡◌, ◌↔◌, ◌<◌, ◌≤◌, ◌+◌, ℕ, Bool, true, false, List, [], ◌∷◌, Contains, length, get_or, inl, inr, refl, sym, subst, ◌∙◌, arith}
use Rattle.std.specs.Prelude.{IsTrue, nat_eq}
use Rattle.std.proofs.lemmas.Bool.{cases_lt, false≢true}
use Rattle.std.proofs.lemmas.Bool.Decides.{nat_tests}
use Rattle.std.proofs.lemmas.List.{get_or_default}
use Rattle.std.proofs.lemmas.List.Elements.{Contains-get_or}

module _ {A : Type 0} (P : A → Type 0) (xs : List A) (i : ℕ) where
  -- nothing was found so far
  abbrev pub NoneBefore : ℕ → Type 0
  NoneBefore n = (k : ℕ) (d : A) → k < n → P (get_or xs k d) → ⊥

  pub none_more : (b : Bool) (d : A) → i < length xs → b ≡ false → IsTrue b ↔ P (get_or xs i d) → NoneBefore i → NoneBefore (i + 1)
  none_more b d lt unset is before k e within p = elim (cases_lt k i) [
    | inl less ↦ before k e less p
    | inr ge ↦
        let at : k ≡ i = omega (arith, ge, within) in
        absurd (false≢true (sym unset ∙ is.1 (subst P (get_or_default xs i e d lt) (subst (λ n. P (get_or xs n e)) at p))))
  ]

  pub found_here : (d : A) → i < length xs → P (get_or xs i d) → (x : A) × Contains xs x × P x
  found_here d lt p = (get_or xs i d, Contains-get_or xs i d lt, p)

  pub none_at_all : length xs ≤ i → NoneBefore i → (x : A) × Contains xs x × P x → ⊥
  none_at_all le before (x, there, p) = before there.0 x (omega (arith, there.1, le)) (subst P (sym there.2) p)

pub empty_is : {A : Type 0} (xs : List A) → length xs ≡ 0 → xs ≡ []
empty_is [] e = refl
empty_is (x ∷ xs) e = absurd (omega (arith, e))

pub some_in : {A : Type 0} (xs : List A) → 0 < length xs → (x : A) × Contains xs x
some_in [] lt = absurd (omega (arith, lt))
some_in (x ∷ xs) lt = (x, (0, omega arith, refl))

-- a length that was compared with 0
pub is_zero : {n : ℕ} (b : Bool) → b ≡ nat_eq n 0 → b ≡ true → n ≡ 0
is_zero b e t = grind (arith, nat_tests)

pub is_positive : {n : ℕ} (b : Bool) → b ≡ nat_eq n 0 → b ≡ false → 0 < n
is_positive b e f = grind (arith, nat_tests)
