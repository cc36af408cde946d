-- The members of a row, listed number by number and word by word.
use Rattle.std.proofs.Common.{◌≡◌, ◌⊎◌, ◌<◌, ◌≤◌, ◌*◌, ◌+◌, ◌/◌, ◌%◌, ℕ, Bool, true, false, IsTrue, ◌↔◌, List, [], ◌∷◌, ◌++◌, length, get_or, inl, inr, refl, sym, ap, subst, ◌∙◌, arith}
use Rattle.std.specs.Int.{bit_at}
use Rattle.std.proofs.lemmas.Bool.{cases_lt}
use Rattle.std.proofs.lemmas.List.{get_or_past}
use Rattle.std.proofs.lemmas.Nat.Bits.{bit_at-zero}
use Rattle.slicer_ids.specs.Sets.{IsOrderedListOf}
use Rattle.slicer_ids.proofs.GrowingOrder.{pushed, reworded, without}
use Rattle.points_to.specs.Bits.{IsMember, ListsBelow}

pub one_more : (row : List ℕ) (n : ℕ) (list : List ℕ) → IsMember row n → ListsBelow row n list → ListsBelow row (n + 1) (list ++ n ∷ [])
one_more row n list m h = pushed (λ a b. a < b) list n (λ k. (k < n) × IsMember row k) (λ k. (k < n + 1) × IsMember row k) h
    (λ y p. p.0) (λ y p. (omega (arith, p.0), p.1)) (omega arith, m)
    (λ y q. elim (cases_lt y n) [ inl lt ↦ inl (lt, q.1) | inr le ↦ inr (omega (arith, le, q.0)) ])

pub none_more : (row : List ℕ) (n : ℕ) (list : List ℕ) → (IsMember row n → ⊥) → ListsBelow row n list → ListsBelow row (n + 1) list
none_more row n list m h = reworded (λ a b. a < b) list (λ k. (k < n) × IsMember row k) (λ k. (k < n + 1) × IsMember row k)
    (λ y p. (omega (arith, p.0), p.1))
    (λ y q. elim (cases_lt y n) [ inl lt ↦ (lt, q.1) | inr le ↦ absurd (m (subst (IsMember row) (omega (arith, le, q.0)) q.1)) ]) h

-- a word without bits has no member
pub none_in_word : (row : List ℕ) (p : ℕ) (list : List ℕ) → get_or row p 0 ≡ 0 → ListsBelow row (64 * p) list → ListsBelow row (64 * (p + 1)) list
none_in_word row p list e h = reworded (λ a b. a < b) list (λ k. (k < 64 * p) × IsMember row k) (λ k. (k < 64 * (p + 1)) × IsMember row k)
    (λ y q. (omega (arith, q.0), q.1))
    (λ y q. elim (cases_lt y (64 * p)) [
      | inl lt ↦ (lt, q.1)
      | inr le ↦ let at : y / 64 ≡ p = omega (arith, le, q.0) in
          let zero : bit_at (get_or row (y / 64) 0) (y % 64) ≡ 0 = ap (λ k. bit_at (get_or row k 0) (y % 64)) at ∙ ap (λ w. bit_at w (y % 64)) e ∙ bit_at-zero (y % 64) in
          absurd (omega (arith, zero, q.1))
    ]) h

pub none_at_first : (row : List ℕ) (list : List ℕ) → list ≡ [] → ListsBelow row 0 list
none_at_first row list e = without (λ a b. a < b) list (λ k. (k < 0) × IsMember row k) e (λ y p. omega (arith, p.0))

pub all_listed : (row : List ℕ) (p : ℕ) (list : List ℕ) → length row ≤ p → ListsBelow row (64 * p) list → IsOrderedListOf (λ a b. a < b) list (IsMember row)
all_listed row p list le h = reworded (λ a b. a < b) list (λ k. (k < 64 * p) × IsMember row k) (IsMember row)
    (λ y q. q.1)
    (λ y m. elim (cases_lt y (64 * p)) [
      | inl lt ↦ (lt, m)
      | inr past ↦ absurd (omega (arith, sym m ∙ ap (λ w. bit_at w (y % 64)) (get_or_past row (y / 64) 0 (omega (arith, le, past))) ∙ bit_at-zero (y % 64)))
    ]) h
