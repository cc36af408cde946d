-- From the bits of one method's words to pairs.
use Rattle.std.proofs.Common.{◌≡◌, ◌≢◌, ℕ, ◌+◌, ◌*◌, ◌/◌, ◌<◌, ◌≤◌, List, length, inl, inr, sym, subst, ap, arith}
use Rattle.std.proofs.lemmas.Bool.{cases_eq}
use Rattle.std.proofs.lemmas.Nat.{same_from_place}
use Rattle.bit_rows.specs.Words.{IsIn, Moved}
use Rattle.bit_rows.specs.Adds.{Adds}
use Rattle.bit_rows.proofs.Bits.{in_range}
use Rattle.dep_form.specs.declared.facts.Facts.{Facts}
use Rattle.tabulate.proofs.Placing.{placed}
use Rattle.tabulate.specs.Frames.{count, method_of, width, first, row, at}
use Rattle.tabulate.specs.Found.{IsBit}
use Rattle.tabulate.specs.Rules.{Row}

pub same_place : (a b c d w : ℕ) → b < 64 * w → d < 64 * w → 64 * (a * w) + b ≡ 64 * (c * w) + d → (a ≡ c) × (b ≡ d)
same_place a b c d w bl dl h =
    let e = same_from_place a (b / 64) c (d / 64) w (omega (arith, bl)) (omega (arith, dl)) (omega (arith, h)) in
    (e.0, omega (arith, h, e.1))

module _ (p : Facts) (n : ℕ) (nl : n < count p) where
  -- two nodes of a method with one row are one
  pub same_row : (k : ℕ) → k < count p → method_of p k ≡ method_of p n → row p k ≡ row p n → k ≡ n
  same_row k kl e r = omega (arith, r, (placed p k kl).above, (placed p n nl).above, ap (first p) e)

  pub same_bit : (q : ℕ × ℕ) (z : ℕ) → q.0 < count p → method_of p q.0 ≡ method_of p n → q.1 < 64 * width p (method_of p q.0) → z < 64 * width p (method_of p n) → 64 * at p q.0 + q.1 ≡ 64 * at p n + z → (q.0 ≡ n) × (q.1 ≡ z)
  same_bit q z c e l zl h =
      let w : width p (method_of p q.0) ≡ width p (method_of p n) = ap (width p) e in
      let s = same_place (row p q.0) q.1 (row p n) z (width p (method_of p n)) (subst (λ (k : ℕ). q.1 < 64 * k) w l) zl (subst (λ (k : ℕ). 64 * (row p q.0 * k) + q.1 ≡ 64 * at p n + z) w h) in
      (same_row q.0 c e s.0, s.1)

  module _ (G T G' T' : ℕ → List ℕ) (skip : ℕ) (delta : List ℕ) (fits : skip + length delta ≤ width p (method_of p n))
      (other_got : (j : ℕ) → j ≢ method_of p n → G' j ≡ G j) (other_todo : (j : ℕ) → j ≢ method_of p n → T' j ≡ T j)
      (a : Adds (IsIn (G (method_of p n))) (IsIn (T (method_of p n))) (IsIn (G' (method_of p n))) (IsIn (T' (method_of p n))) (Moved (at p n + skip) delta)) where
    here : (W : ℕ → List ℕ) (j i : ℕ) → j ≡ method_of p n → IsIn (W j) i → IsIn (W (method_of p n)) i
    here W j i e h = subst (λ (k : ℕ). IsIn (W k) i) e h

    back : (W : ℕ → List ℕ) (j i : ℕ) → j ≡ method_of p n → IsIn (W (method_of p n)) i → IsIn (W j) i
    back W j i e h = subst (λ (k : ℕ). IsIn (W k) i) (sym e) h

    there : (xs ys : List ℕ) (i : ℕ) → ys ≡ xs → IsIn xs i → IsIn ys i
    there xs ys i e h = subst (λ (ws : List ℕ). IsIn ws i) (sym e) h

    given : (y : ℕ) → IsIn delta y → IsBit p G' (n, 64 * skip + y)
    given y d = (nl, omega (arith, in_range delta y d, fits), a.all (64 * at p n + (64 * skip + y)) (y, d, omega arith))

    in_row : (q : ℕ × ℕ) → q.0 < count p → q.1 < 64 * width p (method_of p q.0) → method_of p q.0 ≡ method_of p n → Moved (at p n + skip) delta (λ _. ℕ) (64 * at p q.0 + q.1) → Row n skip delta (λ _. ℕ) q
    in_row q c l e (y, d, h) =
        let s = same_bit q (64 * skip + y) c e l (omega (arith, in_range delta y d, fits)) (omega (arith, h)) in
        (s.0, (y, d, s.1))

    pub lifted : Adds (IsBit p G) (IsBit p T) (IsBit p G') (IsBit p T') (Row n skip delta)
    lifted = record {
      kept = λ q h. elim (cases_eq (method_of p q.0) (method_of p n)) [ inl e ↦ (h.0, h.1, back G' _ _ e (a.kept _ (here G _ _ e h.2))) | inr ne ↦ (h.0, h.1, there _ _ _ (other_got _ ne) h.2) ];
      all = λ q r. subst (λ (z : ℕ). IsBit p G' (z, q.1)) (sym r.0) (subst (λ (z : ℕ). IsBit p G' (n, z)) (sym r.1.2) (given r.1.0 r.1.1));
      only = λ q h. elim (cases_eq (method_of p q.0) (method_of p n)) [
        | inl e ↦ elim (a.only _ (here G' _ _ e h.2)) [ inl o ↦ inl (h.0, h.1, back G _ _ e o) | inr u ↦ inr (in_row q h.0 h.1 e u) ]
        | inr ne ↦ inl (h.0, h.1, there _ _ _ (sym (other_got _ ne)) h.2)
      ];
      fresh = λ q h. elim (cases_eq (method_of p q.0) (method_of p n)) [
        | inl e ↦ elim (a.fresh _ (here G' _ _ e h.2)) [ inl o ↦ inl (h.0, h.1, back G _ _ e o) | inr u ↦ inr (h.0, h.1, back T' _ _ e u) ]
        | inr ne ↦ inl (h.0, h.1, there _ _ _ (sym (other_got _ ne)) h.2)
      ];
      still = λ q h. elim (cases_eq (method_of p q.0) (method_of p n)) [ inl e ↦ (h.0, h.1, back T' _ _ e (a.still _ (here T _ _ e h.2))) | inr ne ↦ (h.0, h.1, there _ _ _ (other_todo _ ne) h.2) ];
      within = λ q h. elim (cases_eq (method_of p q.0) (method_of p n)) [
        | inl e ↦ elim (a.within _ (here T' _ _ e h.2)) [ inl o ↦ inl (h.0, h.1, back T _ _ e o) | inr u ↦ inr ((h.0, h.1, back G' _ _ e u.0), λ o. u.1 (here G _ _ e o.2)) ]
        | inr ne ↦ inl (h.0, h.1, there _ _ _ (sym (other_todo _ ne)) h.2)
      ];
    }
