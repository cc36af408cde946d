-- Words and their bits.
use Rattle.std.proofs.Common.{◌≡◌, ◌≢◌, ◌<◌, ◌≤◌, ◌*◌, ◌+◌, ◌/◌, ◌%◌, ◌^◌, ◌↔◌, ◌⊎◌, ◌++◌, ◌∷◌, [], ℕ, length, max, min, Contains, List, get_or, set, inl, inr, sym, ap, subst, ◌∙◌, arith}
use Rattle.std.specs.Prelude.{bit_or, bit_and}
use Rattle.std.specs.Int.{bit_at, w64}
use Rattle.points_to.specs.Bits.{IsMember, AddsTo}
use Rattle.std.proofs.lemmas.Bool.{cases_eq, cases_lt}
use Rattle.std.proofs.lemmas.List.{set-get_or, get_or_default, get_or_past, get_or-set_same, get_or-set_other}
use Rattle.std.proofs.lemmas.List.Elements.{Contains-push, Contains-push_cases, Contains-append_left}
use Rattle.std.proofs.lemmas.Nat.Bits.{bit_at_or, bit_at_and, bit_at-zero, bit_at-lt, bit_at_set_same, bit_at_set_other}

pub or_bits : (to old from : List ℕ) (k : ℕ) → length from ≡ k → ((i : ℕ) → i < k → get_or to i 0 ≡ bit_or (get_or old i 0) (get_or from i 0)) → ((i : ℕ) → k ≤ i → get_or to i 0 ≡ get_or old i 0)
    → (i b : ℕ) → bit_at (get_or to i 0) b ≡ max (bit_at (get_or old i 0) b) (bit_at (get_or from i 0) b)
or_bits to old from k e done rest i b = elim (cases_lt i k) [
  | inl lt ↦ rw (done i lt) (bit_at_or (get_or old i 0) (get_or from i 0) b)
  | inr le ↦ rw (rest i le, get_or_past from i 0 (omega (arith, e, le)), bit_at-zero b) (omega arith)
]

pub max_is : (a b c : ℕ) → a ≡ max b c → b < 2 → c < 2 → (a ≡ 1) ↔ ((b ≡ 1) ⊎ (c ≡ 1))
max_is a b c e lb lc = (to, from)
  where
    to : a ≡ 1 → (b ≡ 1) ⊎ (c ≡ 1)
    to h = elim (cases_eq b 1) [ inl x ↦ inl x | inr ne ↦ inr (omega (arith, e, h, lb, lc, ne)) ]

    from : (b ≡ 1) ⊎ (c ≡ 1) → a ≡ 1
    from (inl x) = omega (arith, e, x, lc)
    from (inr x) = omega (arith, e, x, lb)

pub union_adds : (new mid old from : List ℕ) → ((i : ℕ) → get_or mid i 0 ≡ get_or old i 0) → ((i b : ℕ) → bit_at (get_or new i 0) b ≡ max (bit_at (get_or mid i 0) b) (bit_at (get_or from i 0) b)) → AddsTo old new (IsMember from)
union_adds new mid old from same bits = λ k. max_is _ (bit_at (get_or old (k / 64) 0) (k % 64)) (bit_at (get_or from (k / 64) 0) (k % 64)) (bits (k / 64) (k % 64) ∙ ap (λ w. max (bit_at w (k % 64)) (bit_at (get_or from (k / 64) 0) (k % 64))) (same (k / 64))) (bit_at-lt (get_or old (k / 64) 0) (k % 64)) (bit_at-lt (get_or from (k / 64) 0) (k % 64))

module _ (words : List ℕ) (n : ℕ) (lt : n / 64 < length words) where
  abbrev pub with_bit : List ℕ
  with_bit = set words (n / 64) (bit_or (get_or words (n / 64) 0) (1 * 2 ^ (n % 64) % 2 ^ 64))

  word_is : get_or with_bit (n / 64) 0 ≡ bit_or (get_or words (n / 64) 0) (1 * 2 ^ (n % 64) % 2 ^ 64)
  word_is = get_or-set_same words (n / 64) _ 0 lt

  pub one_more : (k : ℕ) → IsMember with_bit k ↔ (IsMember words k ⊎ (k ≡ n))
  one_more k = elim (cases_eq (k / 64) (n / 64)) [
    | inr other ↦ (λ h. inl (sym (unchanged other) ∙ h), λ h. elim h [ inl m ↦ unchanged other ∙ m | inr e ↦ absurd (other (ap (λ x. x / 64) e)) ])
    | inl same ↦ elim (cases_eq (k % 64) (n % 64)) [
      | inl bit ↦ (λ h. inr (omega arith), λ h. rw (same, bit, word_is) (bit_at_set_same w64 (get_or words (n / 64) 0) (n % 64) (omega arith)))
      | inr bit ↦ (λ h. inl (rw same (sym (bit_at_set_other w64 (get_or words (n / 64) 0) (n % 64) (omega arith) (k % 64) bit) ∙ (rw (same, word_is) at h))), λ h. elim h [ inl m ↦ rw (same, word_is) (bit_at_set_other w64 (get_or words (n / 64) 0) (n % 64) (omega arith) (k % 64) bit ∙ (rw same at m)) | inr e ↦ absurd (bit (ap (λ x. x % 64) e)) ])
    ]
  ]
    where
      unchanged : k / 64 ≢ n / 64 → bit_at (get_or with_bit (k / 64) 0) (k % 64) ≡ bit_at (get_or words (k / 64) 0) (k % 64)
      unchanged other = ap (λ w. bit_at w (k % 64)) (get_or-set_other words (n / 64) (k / 64) (bit_or (get_or words (n / 64) 0) (1 * 2 ^ (n % 64) % 2 ^ 64)) 0 other)

-- ---- both rows
min_is : (a b c : ℕ) → a ≡ min b c → b < 2 → c < 2 → (a ≡ 1) ↔ ((b ≡ 1) × (c ≡ 1))
min_is a b c e lb lc = (λ h. (omega (arith, e, h, lb, lc), omega (arith, e, h, lb, lc)), λ h. omega (arith, e, h.0, h.1))

pub both_members : (both a b : List ℕ) (k : ℕ) → length both ≡ k → k ≡ min (length a) (length b) → ((i : ℕ) → i < k → get_or both i 0 ≡ bit_and (get_or a i 0) (get_or b i 0)) → (n : ℕ) → IsMember both n ↔ (IsMember a n × IsMember b n)
both_members both a b k len is words n = min_is _ (bit_at (get_or a (n / 64) 0) (n % 64)) (bit_at (get_or b (n / 64) 0) (n % 64)) bits (bit_at-lt (get_or a (n / 64) 0) (n % 64)) (bit_at-lt (get_or b (n / 64) 0) (n % 64))
  where
    bits : bit_at (get_or both (n / 64) 0) (n % 64) ≡ min (bit_at (get_or a (n / 64) 0) (n % 64)) (bit_at (get_or b (n / 64) 0) (n % 64))
    bits = elim (cases_lt (n / 64) k) [
      | inl lt ↦ rw (words (n / 64) lt) (bit_at_and (get_or a (n / 64) 0) (get_or b (n / 64) 0) (n % 64))
      | inr le ↦ rw (get_or_past both (n / 64) 0 (omega (arith, len, le)), bit_at-zero (n % 64)) (past le)
    ]
      where
        past : k ≤ n / 64 → 0 ≡ min (bit_at (get_or a (n / 64) 0) (n % 64)) (bit_at (get_or b (n / 64) 0) (n % 64))
        past le = elim (cases_lt (n / 64) (length a)) [
          | inr over ↦ rw (get_or_past a (n / 64) 0 over, bit_at-zero (n % 64)) (omega arith)
          | inl lt ↦ rw (get_or_past b (n / 64) 0 (omega (arith, le, is, lt)), bit_at-zero (n % 64)) (omega arith)
        ]

pub one_more_at : (words old : List ℕ) (n w : ℕ) → n / 64 < length words → w ≡ get_or words (n / 64) w → ((i : ℕ) → get_or words i 0 ≡ get_or old i 0) → AddsTo old (set words (n / 64) (bit_or w (1 * 2 ^ (n % 64) % 2 ^ 64))) (λ k. k ≡ n)
one_more_at words old n w lt is same = λ k. subst (λ x. IsMember (set words (n / 64) (bit_or x (1 * 2 ^ (n % 64) % 2 ^ 64))) k ↔ (IsMember old k ⊎ (k ≡ n))) (sym (is ∙ get_or_default words (n / 64) w 0 lt)) (here k)
  where
    here : (k : ℕ) → IsMember (with_bit words n lt) k ↔ (IsMember old k ⊎ (k ≡ n))
    here k = subst (λ y. IsMember (with_bit words n lt) k ↔ ((bit_at y (k % 64) ≡ 1) ⊎ (k ≡ n))) (same (k / 64)) (one_more words n lt k)

pub same_word : (words : List ℕ) (i : ℕ) (old new : ℕ) → old ≡ get_or words i old → i < length words → new ≡ old → set words i new ≡ words
same_word words i old new is lt e = ap (set words i) (e ∙ is) ∙ set-get_or words i old

-- ---- one word more
module _ (words old : List ℕ) (n w bits : ℕ) (lt : n < length words) (is : w ≡ get_or words n w) (same : (i : ℕ) → get_or words i 0 ≡ get_or old i 0) where
  abbrev pub with_word : List ℕ
  with_word = set words n (bit_or w bits)

  old_is : get_or old n 0 ≡ w
  old_is = sym (same n) ∙ sym (is ∙ get_or_default words n w 0 lt)

  bit_is : (k : ℕ) → k / 64 ≡ n → bit_at (get_or with_word (k / 64) 0) (k % 64) ≡ max (bit_at (get_or old (k / 64) 0) (k % 64)) (bit_at bits (k % 64))
  bit_is k e = rw (e, get_or-set_same words n (bit_or w bits) 0 lt, old_is) (bit_at_or w bits (k % 64))

  unchanged : (k : ℕ) → k / 64 ≢ n → bit_at (get_or with_word (k / 64) 0) (k % 64) ≡ bit_at (get_or old (k / 64) 0) (k % 64)
  unchanged k ne = ap (λ x. bit_at x (k % 64)) (get_or-set_other words n (k / 64) (bit_or w bits) 0 ne ∙ same (k / 64))

  decided : (k : ℕ) → k / 64 ≡ n → IsMember with_word k ↔ (IsMember old k ⊎ (bit_at bits (k % 64) ≡ 1))
  decided k e = max_is _ _ _ (bit_is k e) (bit_at-lt (get_or old (k / 64) 0) (k % 64)) (bit_at-lt bits (k % 64))

  pub word_keeps : (k : ℕ) → IsMember old k → IsMember with_word k
  word_keeps k m = elim (cases_eq (k / 64) n) [ inl e ↦ (decided k e).1 (inl m) | inr ne ↦ unchanged k ne ∙ m ]

  pub word_only : (k : ℕ) → IsMember with_word k → IsMember old k ⊎ ((k / 64 ≡ n) × (bit_at bits (k % 64) ≡ 1))
  word_only k m = elim (cases_eq (k / 64) n) [
    | inl e ↦ elim ((decided k e).0 m) [ inl o ↦ inl o | inr b ↦ inr (e, b) ]
    | inr ne ↦ inl (sym (unchanged k ne) ∙ m)
  ]

-- the bits of a word of a row are members
pub word_of : (row : List ℕ) (n bits k : ℕ) → n < length row → bits ≡ get_or row n bits → k / 64 ≡ n → bit_at bits (k % 64) ≡ 1 → IsMember row k
word_of row n bits k lt is e b = subst (λ x. bit_at x (k % 64) ≡ 1) (is ∙ get_or_default row n bits 0 lt ∙ ap (λ i. get_or row i 0) (sym e)) b
