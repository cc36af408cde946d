-- A row of one bit.
use Rattle.std.proofs.Common.{◌≡◌, ℕ, ◌*◌, ◌/◌, ◌%◌, ◌^◌, ◌<◌, [], ◌∷◌, get_or, inl, inr, subst, ap, ◌∙◌, arith}
use Rattle.std.specs.Int.{bit_at}
use Rattle.std.proofs.lemmas.Bool.{cases_eq}
use Rattle.std.proofs.lemmas.Nat.{one_shl}
use Rattle.std.proofs.lemmas.Nat.Bits.{bit_at-pow_same, bit_at-pow_other}
use Rattle.bit_rows.specs.Words.{IsIn}
use Rattle.bit_rows.proofs.Bits.{in_range}
use Rattle.dep_form.specs.declared.facts.Facts.{Facts}
use Rattle.tabulate.specs.Frames.{number_of}
use Rattle.tabulate.specs.Rules.{Row, Asks}

one_bit : (k : ℕ) → k < 64 → IsIn ((1 * 2 ^ k % 2 ^ 64) ∷ []) k
one_bit k lt =
    let e : 0 ≡ k / 64 = omega (arith, lt) in
    let f : k ≡ k % 64 = omega (arith, lt) in
    let w : bit_at (1 * 2 ^ k % 2 ^ 64) k ≡ 1 = ap (λ n. bit_at n k) (one_shl k 64 lt) ∙ bit_at-pow_same k in
    subst (λ (i : ℕ). bit_at (get_or ((1 * 2 ^ k % 2 ^ 64) ∷ []) i 0) (k % 64) ≡ 1) e (subst (λ (j : ℕ). bit_at (1 * 2 ^ k % 2 ^ 64) j ≡ 1) f w)

only_bit : (k y : ℕ) → k < 64 → IsIn ((1 * 2 ^ k % 2 ^ 64) ∷ []) y → y ≡ k
only_bit k y lt h = elim (cases_eq y k) [ inl e ↦ e | inr ne ↦ absurd (none ne) ]
  where
    none : (y ≡ k → ⊥) → ⊥
    none ne =
        let low : y < 64 = omega (arith, in_range ((1 * 2 ^ k % 2 ^ 64) ∷ []) y h) in
        let e : y / 64 ≡ 0 = omega (arith, low) in
        let f : y % 64 ≡ y = omega (arith, low) in
        let w : bit_at (1 * 2 ^ k % 2 ^ 64) y ≡ 1 = subst (λ (j : ℕ). bit_at (1 * 2 ^ k % 2 ^ 64) j ≡ 1) f (subst (λ (i : ℕ). bit_at (get_or ((1 * 2 ^ k % 2 ^ 64) ∷ []) i 0) (y % 64) ≡ 1) e h) in
        let z : bit_at (1 * 2 ^ k % 2 ^ 64) y ≡ 0 = ap (λ n. bit_at n y) (one_shl k 64 lt) ∙ bit_at-pow_other k y ne in
        omega (arith, w, z)

module _ (p : Facts) (e n : ℕ) (is : n ≡ number_of p e) (K : ℕ × ℕ → Type 0) (x : ℕ × ℕ) where
  pub to_row : Asks p e K x → Row e (n / 64) ((1 * 2 ^ (n % 64) % 2 ^ 64) ∷ []) K x
  to_row a = (a.0, (n % 64, one_bit (n % 64) (omega arith), omega (arith, a.1, is)))

  pub from_row : Row e (n / 64) ((1 * 2 ^ (n % 64) % 2 ^ 64) ∷ []) K x → Asks p e K x
  from_row r = (r.0, omega (arith, r.1.2, only_bit (n % 64) r.1.0 (omega arith) r.1.1, is))
