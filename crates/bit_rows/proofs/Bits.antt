-- One word more.
use Rattle.std.proofs.Common.{◌≡◌, ◌≢◌, ℕ, suc, zero, ◌+◌, ◌-◌, ◌*◌, ◌/◌, ◌%◌, ◌^◌, ◌<◌, ◌≤◌, min, max, List, length, set, get_or, ◌⊎◌, inl, inr, sym, ap, subst, ◌∙◌, get_or-set_same, get_or-set_other, add-one, arith, bit_and, bit_or, count_ones}
use Rattle.std.specs.Prelude.{◌↔◌}
use Rattle.std.specs.Int.{bit_at, bit_not, w64, trailing_zeros}
use Rattle.std.proofs.lemmas.Bool.{cases_eq, cases_lt}
use Rattle.std.proofs.lemmas.Nat.{or_shr, and_le_l, shr_below, or_lt, ones_le_self, zero_from_ones, le_or_l, le_or_r}
use Rattle.std.proofs.lemmas.Nat.Bits.{bit_at_or, bit_at_and, bit_at_not, bit_at-lt, bit_at-suc, bit_at_lowest, bit_at-zero, bit_at_above, bit_at-trailing_zeros}
use Rattle.std.proofs.lemmas.List.Sums.{sum_by-set}
use Rattle.std.proofs.lemmas.List.{get_or_past}
use lib.Count.{ones_step}
use Rattle.bit_rows.specs.Words.{IsIn, AtWord, Moved, Outside, AreWords, ones_of}
use Rattle.bit_rows.proofs.Adding.{adds_none, adds_then, adds_same}
use Rattle.bit_rows.specs.Adds.{Adds}

-- no bit in both: the counts add up
pub ones_or : (k a b : ℕ) → a < 2 ^ k → b < 2 ^ k → ((i : ℕ) → bit_at a i + bit_at b i ≤ 1) → count_ones (bit_or a b) ≡ count_ones a + count_ones b
ones_or zero a b la lb h =
    let ea : a ≡ 0 = omega (arith, la) in
    let eb : b ≡ 0 = omega (arith, lb) in
    rw (ea, eb) (omega (arith, ones_le_self 0))
ones_or (suc k) a b la lb h =
    let low : bit_or a b % 2 ≡ max (a % 2) (b % 2) = omega (arith, bit_at_or a b 0, bit_at_lowest (bit_or a b), bit_at_lowest a, bit_at_lowest b) in
    let rest : count_ones (bit_or a b / 2) ≡ count_ones (bit_or (a / 2) (b / 2)) = ap count_ones (or_shr a b 1) in
    let more : count_ones (bit_or (a / 2) (b / 2)) ≡ count_ones (a / 2) + count_ones (b / 2) = ones_or k (a / 2) (b / 2) (shr_below a k 1 (subst (λ m. a < 2 ^ m) (sym (add-one k)) la)) (shr_below b k 1 (subst (λ m. b < 2 ^ m) (sym (add-one k)) lb)) (λ i. omega (arith, h (suc i), bit_at-suc a i, bit_at-suc b i)) in
    omega (arith, h 0, bit_at_lowest a, bit_at_lowest b, ones_step (bit_or a b), ones_step a, ones_step b, low, rest, more)

bit_or_is : (a b k : ℕ) → (bit_at (bit_or a b) k ≡ 1) ↔ ((bit_at a k ≡ 1) ⊎ (bit_at b k ≡ 1))
bit_or_is a b k = (to, from)
  where
    to : bit_at (bit_or a b) k ≡ 1 → (bit_at a k ≡ 1) ⊎ (bit_at b k ≡ 1)
    to h = elim (cases_eq (bit_at a k) 1) [ inl e ↦ inl e | inr ne ↦ inr (omega (arith, bit_at_or a b k, bit_at-lt a k, bit_at-lt b k)) ]

    from : (bit_at a k ≡ 1) ⊎ (bit_at b k ≡ 1) → bit_at (bit_or a b) k ≡ 1
    from (inl e) = omega (arith, bit_at_or a b k, bit_at-lt b k)
    from (inr e) = omega (arith, bit_at_or a b k, bit_at-lt a k)

pub or_word : (xs : List ℕ) (place v i : ℕ) → place < length xs → IsIn (set xs place (bit_or (get_or xs place 0) v)) i ↔ (IsIn xs i ⊎ ((i / 64 ≡ place) × (bit_at v (i % 64) ≡ 1)))
or_word xs place v i lt = elim (cases_eq (i / 64) place) [ inl e ↦ same e | inr ne ↦ other ne ]
  where
    ys : List ℕ
    ys = set xs place (bit_or (get_or xs place 0) v)

    same : i / 64 ≡ place → IsIn ys i ↔ (IsIn xs i ⊎ ((i / 64 ≡ place) × (bit_at v (i % 64) ≡ 1)))
    same e =
        let word : get_or ys (i / 64) 0 ≡ bit_or (get_or xs (i / 64) 0) v = ap (λ k. get_or ys k 0) e ∙ get_or-set_same xs place (bit_or (get_or xs place 0) v) 0 lt ∙ ap (λ k. bit_or (get_or xs k 0) v) (sym e) in
        let bit : bit_at (get_or ys (i / 64) 0) (i % 64) ≡ bit_at (bit_or (get_or xs (i / 64) 0) v) (i % 64) = ap (λ w. bit_at w (i % 64)) word in
        let is = bit_or_is (get_or xs (i / 64) 0) v (i % 64) in
        (λ h. elim (is.0 (sym bit ∙ h)) [ inl o ↦ inl o | inr n ↦ inr (e, n) ], λ h. bit ∙ is.1 (elim h [ inl o ↦ inl o | inr n ↦ inr n.1 ]))

    other : i / 64 ≢ place → IsIn ys i ↔ (IsIn xs i ⊎ ((i / 64 ≡ place) × (bit_at v (i % 64) ≡ 1)))
    other ne =
        let bit : bit_at (get_or ys (i / 64) 0) (i % 64) ≡ bit_at (get_or xs (i / 64) 0) (i % 64) = ap (λ w. bit_at w (i % 64)) (get_or-set_other xs place (i / 64) (bit_or (get_or xs place 0) v) 0 ne) in
        (λ h. inl (sym bit ∙ h), λ h. elim h [ inl o ↦ bit ∙ o | inr n ↦ absurd (ne n.0) ])

module _ (w bits : ℕ) (wl : w < 2 ^ 64) where
  abbrev pub new : ℕ
  new = bit_and bits (bit_not w64 w)

  pub new_bit : (b : ℕ) → b < 64 → bit_at new b ≡ min (bit_at bits b) (1 - bit_at w b)
  new_bit b lt = bit_at_and bits (bit_not w64 w) b ∙ ap (λ x. min (bit_at bits b) x) (bit_at_not w64 w b wl lt)

module _ (got todo : List ℕ) (place bits : ℕ) (lt : place < length got) (wl : get_or got place 0 < 2 ^ 64) where
  abbrev pub fresh : ℕ
  fresh = bit_and bits (bit_not w64 (get_or got place 0))

  at_word : (i : ℕ) → i / 64 ≡ place → bit_at fresh (i % 64) ≡ min (bit_at bits (i % 64)) (1 - bit_at (get_or got (i / 64) 0) (i % 64))
  at_word i e = new_bit (get_or got place 0) bits wl (i % 64) (omega arith) ∙ ap (λ k. min (bit_at bits (i % 64)) (1 - bit_at (get_or got k 0) (i % 64))) (sym e)

  -- a bit of the word is new or was there
  either : (i : ℕ) → i / 64 ≡ place → bit_at bits (i % 64) ≡ 1 → IsIn got i ⊎ (bit_at fresh (i % 64) ≡ 1)
  either i e b = elim (cases_eq (bit_at (get_or got (i / 64) 0) (i % 64)) 1) [ inl o ↦ inl o | inr n ↦ inr (omega (arith, at_word i e, bit_at-lt (get_or got (i / 64) 0) (i % 64))) ]

  of_bits : (i : ℕ) → i / 64 ≡ place → bit_at fresh (i % 64) ≡ 1 → bit_at bits (i % 64) ≡ 1
  of_bits i e n = omega (arith, at_word i e, bit_at-lt bits (i % 64))

  not_got : (i : ℕ) → i / 64 ≡ place → bit_at fresh (i % 64) ≡ 1 → IsIn got i → ⊥
  not_got i e n o = omega (arith, at_word i e, n, o, bit_at-lt bits (i % 64))

  pub adds_no_word : fresh ≡ 0 → Adds (IsIn got) (IsIn todo) (IsIn got) (IsIn todo) (AtWord place bits)
  adds_no_word z = record {
    kept = λ i h. h;
    all = λ i r. elim (either i r.0 r.1) [ inl o ↦ o | inr n ↦ absurd (omega (arith, n, ap (λ x. bit_at x (i % 64)) z, bit_at-zero (i % 64))) ];
    only = λ i h. inl h;
    fresh = λ i h. inl h;
    still = λ i h. h;
    within = λ i h. inl h;
  }

  pub adds_word : place < length todo → Adds (IsIn got) (IsIn todo) (IsIn (set got place (bit_or (get_or got place 0) fresh))) (IsIn (set todo place (bit_or (get_or todo place 0) fresh))) (AtWord place bits)
  adds_word lt' = record {
    kept = λ i h. (g i).1 (inl h);
    all = λ i r. elim (either i r.0 r.1) [ inl o ↦ (g i).1 (inl o) | inr n ↦ (g i).1 (inr (r.0, n)) ];
    only = λ i h. elim ((g i).0 h) [ inl o ↦ inl o | inr n ↦ inr (n.0, of_bits i n.0 n.1) ];
    fresh = λ i h. elim ((g i).0 h) [ inl o ↦ inl o | inr n ↦ inr ((t i).1 (inr n)) ];
    still = λ i h. (t i).1 (inl h);
    within = λ i h. elim ((t i).0 h) [ inl o ↦ inl o | inr n ↦ inr ((g i).1 (inr n), not_got i n.0 n.1) ];
  }
    where
      g : (i : ℕ) → IsIn (set got place (bit_or (get_or got place 0) fresh)) i ↔ (IsIn got i ⊎ ((i / 64 ≡ place) × (bit_at fresh (i % 64) ≡ 1)))
      g i = or_word got place fresh i lt

      t : (i : ℕ) → IsIn (set todo place (bit_or (get_or todo place 0) fresh)) i ↔ (IsIn todo i ⊎ ((i / 64 ≡ place) × (bit_at fresh (i % 64) ≡ 1)))
      t i = or_word todo place fresh i lt'

  pub count_word : bits < 2 ^ 64 → ones_of (set got place (bit_or (get_or got place 0) fresh)) ≡ ones_of got + count_ones fresh
  count_word bl = omega (arith, sum_by-set count_ones got place (bit_or (get_or got place 0) fresh) 0 lt, ones_or 64 (get_or got place 0) fresh wl small apart)
    where
      small : fresh < 2 ^ 64
      small = omega (arith, and_le_l bits (bit_not w64 (get_or got place 0)))

      apart : (i : ℕ) → bit_at (get_or got place 0) i + bit_at fresh i ≤ 1
      apart i = elim (cases_eq (bit_at (get_or got place 0) i) 1) [
        | inl o ↦ elim (cases_lt i 64) [
          | inl low ↦ omega (arith, new_bit (get_or got place 0) bits wl i low, o)
          | inr high ↦ absurd (omega (arith, o, bit_at_above (get_or got place 0) 64 i wl high))
        ]
        | inr n ↦ omega (arith, bit_at-lt (get_or got place 0) i, bit_at-lt fresh i)
      ]

-- a row's bits, as far as the first k words
abbrev pub MovedBelow : ℕ → List ℕ → ℕ → (ℕ → Type 0) → ℕ → Type 0
MovedBelow at delta k K i = (x : ℕ) × (x < 64 * k) × IsIn delta x × (i ≡ 64 * at + x)

bit_moved : (delta : List ℕ) (x k b : ℕ) → x / 64 ≡ k → x % 64 ≡ b → IsIn delta x → bit_at (get_or delta k 0) b ≡ 1
bit_moved delta x k b e f h = subst (λ m. bit_at (get_or delta m 0) b ≡ 1) e (subst (λ m. bit_at (get_or delta (x / 64) 0) m ≡ 1) f h)

moved_bit : (delta : List ℕ) (x k b : ℕ) → x / 64 ≡ k → x % 64 ≡ b → bit_at (get_or delta k 0) b ≡ 1 → IsIn delta x
moved_bit delta x k b e f h = subst (λ m. bit_at (get_or delta m 0) (x % 64) ≡ 1) (sym e) (subst (λ m. bit_at (get_or delta k 0) m ≡ 1) (sym f) h)

pub in_range : (xs : List ℕ) (x : ℕ) → IsIn xs x → x < 64 * length xs
in_range xs x h = elim (cases_lt (x / 64) (length xs)) [ inl lt ↦ omega arith | inr le ↦ absurd (none le) ]
  where
    none : length xs ≤ x / 64 → ⊥
    none le =
        let e : bit_at (get_or xs (x / 64) 0) (x % 64) ≡ bit_at 0 (x % 64) = ap (λ w. bit_at w (x % 64)) (get_or_past xs (x / 64) 0 le) in
        omega (arith, h, e, bit_at-zero (x % 64))

pub row_more : (at : ℕ) (delta : List ℕ) (k : ℕ) (g t g1 t1 g2 t2 : ℕ → Type 0) → Adds g t g1 t1 (MovedBelow at delta k) → Adds g1 t1 g2 t2 (AtWord (at + k) (get_or delta k 0)) → Adds g t g2 t2 (MovedBelow at delta (k + 1))
row_more at delta k g t g1 t1 g2 t2 = adds_then g t g1 t1 g2 t2 (MovedBelow at delta k) (AtWord (at + k) (get_or delta k 0)) (MovedBelow at delta (k + 1)) (λ K L f i r. r) to from
  where
    to : (K : ℕ → Type 0) (i : ℕ) → MovedBelow at delta (k + 1) K i → MovedBelow at delta k K i ⊎ AtWord (at + k) (get_or delta k 0) K i
    to K i (x, lt, b, e) = elim (cases_lt x (64 * k)) [ inl low ↦ inl (x, low, b, e) | inr high ↦ inr (omega arith, bit_moved delta x k (i % 64) (omega arith) (omega arith) b) ]

    from : (K : ℕ → Type 0) (i : ℕ) → MovedBelow at delta k K i ⊎ AtWord (at + k) (get_or delta k 0) K i → MovedBelow at delta (k + 1) K i
    from K i (inl m) = (m.0, omega (arith, m.1), m.2, m.3)
    from K i (inr w) = (i - 64 * at, omega (arith, w.0), moved_bit delta (i - 64 * at) k (i % 64) (omega (arith, w.0)) (omega (arith, w.0)) w.1, omega (arith, w.0))

pub row_whole : (at : ℕ) (delta : List ℕ) (k : ℕ) (g t g' t' : ℕ → Type 0) → length delta ≤ k → Adds g t g' t' (MovedBelow at delta k) → Adds g t g' t' (Moved at delta)
row_whole at delta k g t g' t' le = adds_same g t g' t' (MovedBelow at delta k) (Moved at delta) (λ i m. (m.0, omega (arith, in_range delta m.0 m.1), m.1, m.2)) (λ i m. (m.0, m.2, m.3))

pub row_none : (at : ℕ) (delta : List ℕ) (g t : ℕ → Type 0) → Adds g t g t (MovedBelow at delta 0)
row_none at delta g t = adds_none g t (MovedBelow at delta 0) (λ i m. absurd (omega (arith, m.1)))

pub counts : (n : ℕ) → 0 < n → 0 < count_ones n
counts n lt = elim (cases_lt 0 (count_ones n)) [ inl h ↦ h | inr le ↦ absurd (omega (arith, lt, zero_from_ones n (omega (arith, le)))) ]

pub any_of : (a b : ℕ) → 0 < bit_or a b → (0 < a) ⊎ (0 < b)
any_of a b h = elim (cases_lt 0 a) [ inl l ↦ inl l | inr z ↦ inr (elim (cases_lt 0 b) [ inl l ↦ l | inr y ↦ absurd (none a b (omega arith) (omega arith) h) ]) ]
  where
    none : (a b : ℕ) → a ≡ 0 → b ≡ 0 → 0 < bit_or a b → ⊥
    none a b e f h = omega (arith, (subst (λ x. 0 < bit_or x b) e h))

pub none_of : (a b : ℕ) → bit_or a b ≡ 0 → (a ≡ 0) × (b ≡ 0)
none_of a b h = (omega (arith, le_or_l a b), omega (arith, le_or_r a b))

pub cleared_none : (xs : List ℕ) (at i : ℕ) → IsIn xs i ↔ IsIn xs i × Outside at 0 i
cleared_none xs at i = (λ h. (h, elim (cases_lt i (64 * at)) [ inl l ↦ inl l | inr g ↦ inr (omega arith) ]), λ h. h.0)

pub cleared_more : (xs ys : List ℕ) (at k i : ℕ) → at + k < length ys → IsIn ys i ↔ IsIn xs i × Outside at k i → IsIn (set ys (at + k) 0) i ↔ IsIn xs i × Outside at (k + 1) i
cleared_more xs ys at k i lt is = elim (cases_eq (i / 64) (at + k)) [ inl e ↦ same e | inr ne ↦ other ne ]
  where
    same : i / 64 ≡ at + k → IsIn (set ys (at + k) 0) i ↔ IsIn xs i × Outside at (k + 1) i
    same e =
        let bit : bit_at (get_or (set ys (at + k) 0) (i / 64) 0) (i % 64) ≡ bit_at 0 (i % 64) = ap (λ w. bit_at w (i % 64)) (ap (λ j. get_or (set ys (at + k) 0) j 0) e ∙ get_or-set_same ys (at + k) 0 0 lt) in
        (λ h. absurd (omega (arith, h, bit, bit_at-zero (i % 64))), λ h. elim h.1 [ inl a ↦ absurd (omega (arith, a, e)) | inr b ↦ absurd (omega (arith, b, e)) ])

    other : i / 64 ≢ at + k → IsIn (set ys (at + k) 0) i ↔ IsIn xs i × Outside at (k + 1) i
    other ne =
        let bit : bit_at (get_or (set ys (at + k) 0) (i / 64) 0) (i % 64) ≡ bit_at (get_or ys (i / 64) 0) (i % 64) = ap (λ w. bit_at w (i % 64)) (get_or-set_other ys (at + k) (i / 64) 0 0 ne) in
        (λ h. let o = is.0 (sym bit ∙ h) in (o.0, elim o.1 [ inl a ↦ inl a | inr b ↦ inr (omega (arith, b, ne)) ]), λ h. bit ∙ is.1 (h.0, elim h.1 [ inl a ↦ inl a | inr b ↦ inr (omega (arith, b)) ]))

at_row : (xs : List ℕ) (at x : ℕ) → bit_at (get_or xs ((64 * at + x) / 64) 0) ((64 * at + x) % 64) ≡ bit_at (get_or xs (at + x / 64) 0) (x % 64)
at_row xs at x =
    let e : (64 * at + x) / 64 ≡ at + x / 64 = omega arith in
    let f : (64 * at + x) % 64 ≡ x % 64 = omega arith in
    ap (λ k. bit_at (get_or xs k 0) ((64 * at + x) % 64)) e ∙ ap (λ b. bit_at (get_or xs (at + x / 64) 0) b) f

pub taken_bit : (into got todo : List ℕ) (at x : ℕ) → get_or todo (at + x / 64) 0 < 2 ^ 64 → get_or into (x / 64) 0 ≡ bit_and (get_or got (at + x / 64) 0) (bit_not w64 (get_or todo (at + x / 64) 0))
    → IsIn into x ↔ IsIn got (64 * at + x) × (IsIn todo (64 * at + x) → ⊥)
taken_bit into got todo at x tl e = (to, from)
  where
    bit : bit_at (get_or into (x / 64) 0) (x % 64) ≡ min (bit_at (get_or got (at + x / 64) 0) (x % 64)) (1 - bit_at (get_or todo (at + x / 64) 0) (x % 64))
    bit = ap (λ w. bit_at w (x % 64)) e ∙ new_bit (get_or todo (at + x / 64) 0) (get_or got (at + x / 64) 0) tl (x % 64) (omega arith)

    to : IsIn into x → IsIn got (64 * at + x) × (IsIn todo (64 * at + x) → ⊥)
    to h = (omega (arith, h, bit, at_row got at x, bit_at-lt (get_or got (at + x / 64) 0) (x % 64)), λ k. omega (arith, h, bit, k, at_row todo at x, bit_at-lt (get_or got (at + x / 64) 0) (x % 64)))

    from : IsIn got (64 * at + x) × (IsIn todo (64 * at + x) → ⊥) → IsIn into x
    from (h, k) = elim (cases_eq (bit_at (get_or todo (at + x / 64) 0) (x % 64)) 1) [ inl o ↦ absurd (k (at_row todo at x ∙ o)) | inr n ↦ omega (arith, h, bit, n, at_row got at x, bit_at-lt (get_or todo (at + x / 64) 0) (x % 64)) ]

pub words_set : (xs : List ℕ) (place bits : ℕ) → place < length xs → bits < 2 ^ 64 → get_or xs place 0 < 2 ^ 64 → AreWords xs → AreWords (set xs place (bit_or (get_or xs place 0) (bit_and bits (bit_not w64 (get_or xs place 0)))))
words_set xs place bits lt bl wl all i = elim (cases_eq i place) [
  | inl e ↦ subst (λ (k : ℕ). get_or (set xs place v) k 0 < 2 ^ 64) (sym e) (subst (λ (w : ℕ). w < 2 ^ 64) (sym (get_or-set_same xs place v 0 lt)) (or_lt 64 (get_or xs place 0) (bit_and bits (bit_not w64 (get_or xs place 0))) wl (omega (arith, bl, and_le_l bits (bit_not w64 (get_or xs place 0))))))
  | inr ne ↦ subst (λ (w : ℕ). w < 2 ^ 64) (sym (get_or-set_other xs place i v 0 ne)) (all i)
]
  where
    v : ℕ
    v = bit_or (get_or xs place 0) (bit_and bits (bit_not w64 (get_or xs place 0)))

-- a word that isn't 0 has a bit
pub some_bit : (xs : List ℕ) (i : ℕ) → 0 < get_or xs i 0 → get_or xs i 0 < 2 ^ 64 → (x : ℕ) × IsIn xs x
some_bit xs i pos lt =
    let t = bit_at-trailing_zeros w64 (get_or xs i 0) pos lt in
    let z : ℕ = trailing_zeros w64 (get_or xs i 0) in
    let e : i ≡ (64 * i + z) / 64 = omega (arith, t.0) in
    let f : z ≡ (64 * i + z) % 64 = omega (arith, t.0) in
    (64 * i + z, subst (λ (k : ℕ). bit_at (get_or xs k 0) ((64 * i + z) % 64) ≡ 1) e (subst (λ (k : ℕ). bit_at (get_or xs i 0) k ≡ 1) f t.1))
