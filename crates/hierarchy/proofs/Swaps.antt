-- Lists without repetition, when their elements are exchanged.
use Rattle.std.proofs.Common.{◌≡◌, ℕ, ◌<◌, ◌⊎◌, inl, inr, List, length, get_or, refl, sym, ◌∙◌, subst, ap, arith}
use Rattle.std.specs.Prelude.{AllPairs, IsPermutation}
use Rattle.std.specs.List.{swap}
use Rattle.std.proofs.lemmas.Bool.{cases_order}
use Rattle.std.proofs.lemmas.List.Edits.{swapped_from_swap}
use Rattle.std.proofs.lemmas.List.Sorted.{IsPermutation-keeps, IsPermutation-swap, length_permutation}

-- what stands at two places is two things
pub record IsWithoutRepeats {X : Type 0} (xs : List X) : Type 0 where
  pub one : (i j : ℕ) (d : X) → i < length xs → j < length xs → get_or xs i d ≡ get_or xs j d → i ≡ j

pub without_repeats : {X : Type 0} (B : X → X → Type 0) (xs : List X) → ((x : X) → B x x → ⊥) → AllPairs B xs → IsWithoutRepeats xs
without_repeats {X} B xs never order = record {
  one = λ i j d l m e. elim (cases_order i j) [
    | inl same ↦ same
    | inr apart ↦ elim apart [
      | inl lt ↦ absurd (never (get_or xs j d) (subst (λ (x : X). B x (get_or xs j d)) e (order i j d lt m)))
      | inr gt ↦ absurd (never (get_or xs i d) (subst (λ (x : X). B x (get_or xs i d)) (sym e) (order j i d gt l)))
    ]
  ];
}

-- what stands at k after an exchange of a and b stood at j before
pub data IsMoved (a b : ℕ) : ℕ → ℕ → Type 0 where
  from_second : {k j : ℕ} → k ≡ a → j ≡ b → IsMoved a b k j
  from_first : {k j : ℕ} → (k ≡ a → ⊥) → k ≡ b → j ≡ a → IsMoved a b k j
  from_there : {k j : ℕ} → (k ≡ a → ⊥) → (k ≡ b → ⊥) → j ≡ k → IsMoved a b k j

moved : {X : Type 0} (xs : List X) (a b k : ℕ) (d : X) → a < length xs → b < length xs → k < length xs
    → (j : ℕ) × (j < length xs) × (get_or (swap xs a b) k d ≡ get_or xs j d) × IsMoved a b k j
moved xs a b k d l m n =
    let s = swapped_from_swap xs (swap xs a b) a b d l m refl in
    elim (cases_order k a) [
      | inl e ↦ (b, m, ap (λ n. get_or (swap xs a b) n d) e ∙ s.0, from_second e refl)
      | inr x ↦
          let p : k ≡ a → ⊥ = λ e. elim x [ inl lt ↦ omega arith | inr gt ↦ omega arith ] in
          elim (cases_order k b) [
            | inl f ↦ (a, l, ap (λ n. get_or (swap xs a b) n d) f ∙ s.1, from_first p f refl)
            | inr y ↦ let q : k ≡ b → ⊥ = λ e. elim y [ inl lt ↦ omega arith | inr gt ↦ omega arith ] in (k, n, s.2 k p q, from_there p q refl)
          ]
    ]

one_origin : (a b i k j l : ℕ) → IsMoved a b i j → IsMoved a b k l → j ≡ l → i ≡ k
one_origin a b i k j l (from_second p q) (from_second r s) e = p ∙ sym r
one_origin a b i k j l (from_second p q) (from_first n r s) e = omega arith
one_origin a b i k j l (from_second p q) (from_there n o s) e = absurd (o (omega arith))
one_origin a b i k j l (from_first n p q) (from_second r s) e = omega arith
one_origin a b i k j l (from_first n p q) (from_first o r s) e = p ∙ sym r
one_origin a b i k j l (from_first n p q) (from_there o t s) e = absurd (o (omega arith))
one_origin a b i k j l (from_there n o q) (from_second r s) e = absurd (o (omega arith))
one_origin a b i k j l (from_there n o q) (from_first t r s) e = absurd (n (omega arith))
one_origin a b i k j l (from_there n o q) (from_there t u s) e = omega arith

after_swap : {X : Type 0} (xs : List X) (a b : ℕ) → a < length xs → b < length xs → IsWithoutRepeats xs → IsWithoutRepeats (swap xs a b)
after_swap xs a b l m w =
    let len = length_permutation xs (swap xs a b) (IsPermutation-swap xs (swap xs a b) a b l m refl) in
    record {
      one = λ i k d p q e.
          let f = moved xs a b i d l m (omega (arith, len)) in
          let g = moved xs a b k d l m (omega (arith, len)) in
          one_origin a b i k f.0 g.0 f.3 g.3 (w.one f.0 g.0 d f.1 g.1 (sym f.2 ∙ e ∙ g.2));
    }

pub after_permutation : {X : Type 0} (xs ys : List X) → IsPermutation xs ys → IsWithoutRepeats xs → IsWithoutRepeats ys
after_permutation xs ys p w = IsPermutation-keeps xs IsWithoutRepeats w (λ l i j m n h. after_swap l i j m n h) ys p
