-- How much of a finite number of things is missing.
use Rattle.std.proofs.Common.{◌≡◌, ◌<◌, ◌≤◌, ◌+◌, ℕ, zero, suc, Bool, true, false, cond, inl, inr, arith, ap, sym, ◌∙◌, refl, true≢false}
use Rattle.session_walk.specs.Missing.{missing}
use Rattle.std.proofs.lemmas.Bool.{cases_Bool, cases_lt, cond-true, cond-false}

module _ (has later : ℕ → Bool) (kept : (k : ℕ) → has k ≡ true → later k ≡ true) where
  one_less : (k : ℕ) → cond (later k) 0 1 ≤ cond (has k) 0 1
  one_less k = elim (cases_Bool (has k)) [
    | inl on ↦ omega (arith, cond-true {A = ℕ} (has k) 0 1 on, cond-true {A = ℕ} (later k) 0 1 (kept k on))
    | inr off ↦ elim (cases_Bool (later k)) [
      | inl on ↦ omega (arith, cond-true {A = ℕ} (later k) 0 1 on)
      | inr gone ↦ omega (arith, cond-false {A = ℕ} (later k) 0 1 gone, cond-false {A = ℕ} (has k) 0 1 off)
    ]
  ]

  -- what is kept isn't missing later
  pub no_more_missing : (n : ℕ) → missing later n ≤ missing has n
  no_more_missing zero = omega arith
  no_more_missing (suc n) = omega (arith, one_less n, no_more_missing n)

  -- .. and something new makes it less
  pub less_missing : (n k : ℕ) → k < n → has k ≡ false → later k ≡ true → missing later n < missing has n
  less_missing zero k lt was is = absurd (omega (arith, lt))
  less_missing (suc n) k lt was is = elim (cases_lt k n) [
    | inl below ↦ omega (arith, one_less n, less_missing n k below was is)
    | inr above ↦
        let same : k ≡ n = omega (arith, lt, above) in
        let before : cond (has n) 0 1 ≡ 1 = cond-false {A = ℕ} (has n) 0 1 (sym (ap has same) ∙ was) in
        let after : cond (later n) 0 1 ≡ 0 = cond-true {A = ℕ} (later n) 0 1 (sym (ap later same) ∙ is) in
        omega (arith, before, after, no_more_missing n)
  ]
