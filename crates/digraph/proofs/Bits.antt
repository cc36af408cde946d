-- Rows of bits.
use Rattle.std.proofs.Common.{◌≡◌, ◌≢◌, ℕ, ◌+◌, ◌*◌, ◌/◌, ◌%◌, ◌^◌, ◌<◌, ◌≤◌, ◌⊎◌, ◌↔◌, inl, inr, List, length, set, get_or, refl, sym, ap, ◌∙◌, subst, arith, get_or-set_same, get_or-set_other, length-set, w64, bit_or, max}
use Rattle.std.specs.Prelude.{slice_index}
use Rattle.std.specs.Int.{bit_at}
use Rattle.std.proofs.lemmas.Bool.{cases_eq, cases_lt}
use Rattle.std.proofs.lemmas.List.{get_or_past}
use Rattle.std.proofs.lemmas.Nat.Bits.{bit_at_or, bit_at-zero, bit_at_set_same, bit_at_set_other, bit_at-lt}
use Rattle.digraph.specs.Rows.{HasBit}

-- a word of a row
word_bit : (row : List ℕ) (b w : ℕ) → slice_index row (b / 64) ≡ w → bit_at w (b % 64) ≡ 1 → HasBit row b
word_bit row b w e h = ap (λ x. bit_at x (b % 64)) e ∙ h

bit_word : (row : List ℕ) (b w : ℕ) → slice_index row (b / 64) ≡ w → HasBit row b → bit_at w (b % 64) ≡ 1
bit_word row b w e h = sym (ap (λ x. bit_at x (b % 64)) e) ∙ h

-- one bit more
pub with_bit : (row : List ℕ) (n w : ℕ) → n / 64 < length row → slice_index row (n / 64) ≡ w
    → (b : ℕ) → HasBit (set row (n / 64) (bit_or w (1 * 2 ^ (n % 64) % 18446744073709551616))) b ↔ (HasBit row b ⊎ (b ≡ n))
with_bit row n w lt e b = elim (cases_eq (b / 64) (n / 64)) [
  | inr other ↦
      let same = get_or-set_other row (n / 64) (b / 64) (bit_or w (1 * 2 ^ (n % 64) % 18446744073709551616)) 0 other in
      (λ h. inl (bit_word _ b (slice_index row (b / 64)) same h), λ h. elim h [ inl was ↦ word_bit _ b (slice_index row (b / 64)) same was | inr is ↦ absurd (other (ap (λ x. x / 64) is)) ])
  | inl here ↦
      let new = bit_or w (1 * 2 ^ (n % 64) % 18446744073709551616) in
      let now : slice_index (set row (n / 64) new) (b / 64) ≡ new = ap (slice_index (set row (n / 64) new)) here ∙ get_or-set_same row (n / 64) new 0 lt in
      let was : slice_index row (b / 64) ≡ w = ap (slice_index row) here ∙ e in
      let small : n % 64 < 64 = omega arith in
      elim (cases_eq (b % 64) (n % 64)) [
        | inl bit ↦ (λ h. inr (omega (arith, here, bit)), λ h. word_bit _ b new now (ap (bit_at new) bit ∙ bit_at_set_same w64 w (n % 64) small))
        | inr apart ↦
            let keeps = bit_at_set_other w64 w (n % 64) small (b % 64) apart in (
              λ h. inl (word_bit row b w was (sym keeps ∙ bit_word _ b new now h)),
              λ h. elim h [ inl had ↦ word_bit _ b new now (keeps ∙ bit_word row b w was had) | inr is ↦ absurd (apart (ap (λ x. x % 64) is)) ],
            )
      ]
]

-- the words of two rows joined
pub record AreJoined (row other new : List ℕ) (n : ℕ) : Type 0 where
  pub len : length new ≡ length row
  pub joined : (k : ℕ) → k < n → slice_index new k ≡ bit_or (slice_index row k) (slice_index other k)
  pub kept : (k : ℕ) → n ≤ k → slice_index new k ≡ slice_index row k

pub joined_more : (row other new : List ℕ) (n w : ℕ) → n < length row → AreJoined row other new n → w ≡ bit_or (slice_index row n) (slice_index other n) → AreJoined row other (set new n w) (n + 1)
joined_more row other new n w lt j e = record {
  len = length-set new n w ∙ j.len;
  joined = λ k l. elim (cases_eq k n) [
    | inl is ↦ subst (λ m. slice_index (set new n w) m ≡ bit_or (slice_index row m) (slice_index other m)) (sym is) (get_or-set_same new n w 0 (omega (arith, j.len)) ∙ e)
    | inr ne ↦ get_or-set_other new n k w 0 ne ∙ j.joined k (omega arith)
  ];
  kept = λ k l. get_or-set_other new n k w 0 (λ e. omega arith) ∙ j.kept k (omega arith);
}

bit_of_max : (x y : ℕ) → x < 2 → y < 2 → (max x y ≡ 1) ↔ ((x ≡ 1) ⊎ (y ≡ 1))
bit_of_max x y h k = (λ e. elim (cases_eq x 1) [ inl is ↦ inl is | inr ne ↦ inr (omega arith) ], λ e. elim e [ inl is ↦ omega arith | inr is ↦ omega arith ])

pub joined_bits : (row other new : List ℕ) (n : ℕ) → length row ≡ n → length other ≡ n → AreJoined row other new n → (b : ℕ) → HasBit new b ↔ (HasBit row b ⊎ HasBit other b)
joined_bits row other new n l m j b = elim (cases_lt (b / 64) n) [
  | inl lt ↦
      let x = bit_at (slice_index row (b / 64)) (b % 64) in
      let y = bit_at (slice_index other (b / 64)) (b % 64) in
      let e : bit_at (slice_index new (b / 64)) (b % 64) ≡ max x y = ap (λ w. bit_at w (b % 64)) (j.joined (b / 64) lt) ∙ bit_at_or (slice_index row (b / 64)) (slice_index other (b / 64)) (b % 64) in
      let f = bit_of_max x y (bit_at-lt _ _) (bit_at-lt _ _) in
      (λ h. f.0 (sym e ∙ h), λ h. e ∙ f.1 h)
  | inr past ↦
      let none = get_or_past row (b / 64) 0 (omega arith) in
      let new_none = j.kept (b / 64) past ∙ none in
      let other_none = get_or_past other (b / 64) 0 (omega arith) in (
        λ h. absurd (no_bit (b % 64) (bit_word new b 0 new_none h)),
        λ h. elim h [ inl r ↦ absurd (no_bit (b % 64) (bit_word row b 0 none r)) | inr o ↦ absurd (no_bit (b % 64) (bit_word other b 0 other_none o)) ],
      )
]
  where
    no_bit : (i : ℕ) → bit_at 0 i ≡ 1 → ⊥
    no_bit i h = omega (arith, bit_at-zero i, h)
