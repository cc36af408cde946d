-- Lists whose items each come before the next.
use Rattle.std.proofs.Common.{◌≡◌, ◌<◌, ◌≤◌, ◌+◌, ◌-◌, ℕ, List, length, get_or, inl, inr, sym, subst, ◌∙◌, arith}
use Rattle.std.specs.Prelude.{AllPairs}
use Rattle.std.proofs.lemmas.Bool.{cases_lt}
use Rattle.std.proofs.lemmas.List.{get_or_default}
use Rattle.constraint_form.specs.ConstraintSystems.{PairBefore}

pub pair_trans : (a b c : ℕ × ℕ) → PairBefore a b → PairBefore b c → PairBefore a c
pair_trans a b c (inl x) (inl y) = inl (omega (arith, x, y))
pair_trans a b c (inl x) (inr (e, y)) = inl (omega (arith, x, e))
pair_trans a b c (inr (e, x)) (inl y) = inl (omega (arith, e, y))
pair_trans a b c (inr (e, x)) (inr (f, y)) = inr (e ∙ f, omega (arith, x, y))

-- the first n items are in order
abbrev pub AreRising : {A : Type 0} → (A → A → Type 0) → List A → ℕ → Type 0
AreRising {A} B xs n = (j k : ℕ) (d : A) → j < k → k < n → B (get_or xs j d) (get_or xs k d)

pub rises_more : {A : Type 0} (B : A → A → Type 0) → ((a b c : A) → B a b → B b c → B a c) → (xs : List A) (i : ℕ) (d e : A) → 0 < i → i < length xs → B (get_or xs (i - 1) d) (get_or xs i e)
    → AreRising B xs i → AreRising B xs (i + 1)
rises_more {A} B trans xs i d e some lt next before j k z less within = elim (cases_lt k i) [
  | inl earlier ↦ before j k z less earlier
  | inr le ↦
      let at : k ≡ i = omega (arith, le, within) in
      let step : B (get_or xs (i - 1) z) (get_or xs i z) =
      subst (λ y. B y (get_or xs i z)) (get_or_default xs (i - 1) d z (omega (arith, lt))) (subst (λ y. B (get_or xs (i - 1) d) y) (get_or_default xs i e z lt) next) in
      let here : B (get_or xs j z) (get_or xs i z) = elim (cases_lt j (i - 1)) [
        | inl far ↦ trans (get_or xs j z) (get_or xs (i - 1) z) (get_or xs i z) (before j (i - 1) z far (omega (arith, some))) step
        | inr near ↦ let same : i - 1 ≡ j = omega (arith, near, less, at, some) in subst (λ n. B (get_or xs n z) (get_or xs i z)) same step
      ] in
      subst (λ n. B (get_or xs j z) (get_or xs n z)) (sym at) here
]

pub none_rising : {A : Type 0} (B : A → A → Type 0) (xs : List A) → AreRising B xs 1
none_rising B xs j k d lt within = absurd (omega (arith, lt, within))

pub all_rising : {A : Type 0} (B : A → A → Type 0) (xs : List A) (n : ℕ) → length xs ≤ n → AreRising B xs n → AllPairs B xs
all_rising B xs n le before j k d lt within = before j k d lt (omega (arith, le, within))
