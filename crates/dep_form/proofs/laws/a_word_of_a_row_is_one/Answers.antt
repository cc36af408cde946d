use Rattle.std.proofs.Common.{◌≡◌, ℕ, ◌<◌, sym, ◌∙◌, inl, inr, arith}
use Rattle.std.specs.Int.{bit_at}
use Rattle.std.proofs.lemmas.Bool.{cases_eq}
use Rattle.std.proofs.lemmas.Nat.Bits.{same_from_bits_below, bit_at-lt}
use Rattle.dep_form.proofs.laws.a_word_of_a_row_is_one.Goals as goal

-- bits that are set alike are equal
alike : (x y : ℕ) → x < 2 → y < 2 → (x ≡ 1 → y ≡ 1) → (y ≡ 1 → x ≡ 1) → x ≡ y
alike x y p q to from = elim (cases_eq x 1) [
  | inl one ↦ one ∙ sym (to one)
  | inr other ↦ elim (cases_eq y 1) [ inl one ↦ absurd (other (from one)) | inr none ↦ omega arith ]
]

pub returns : goal.returns
returns c = λ f mode e k a b p q m n.
    same_from_bits_below 64 a b p q (λ i lt. alike (bit_at a i) (bit_at b i) (bit_at-lt a i) (bit_at-lt b i) (λ h. (n i lt).1 ((m i lt).0 h)) (λ h. (m i lt).1 ((n i lt).0 h)))
