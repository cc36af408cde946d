-- The numbers of which a test holds, in order.
use Rattle.std.proofs.Common.{◌≡◌, ◌≢◌, ℕ, zero, suc, ◌+◌, ◌*◌, ◌/◌, ◌%◌, ◌^◌, ◌<◌, ◌≤◌, Bool, true, false, cond, eqb, List, [], ◌∷◌, length, get_or, Contains, AllPairs, count_ones, ◌⊎◌, inl, inr, refl, sym, subst, ap, ◌∙◌, add-one, eq-eqb, arith}
use Rattle.std.proofs.lemmas.Bool.{cases_eq, eqb-true, false≢true}
use Rattle.std.proofs.lemmas.Nat.{shr_below, ones_le_self}
use Rattle.std.proofs.lemmas.Nat.Bits.{bit_at_lowest, bit_at-suc, bit_at-lt}
use Rattle.std.proofs.lemmas.List.Kept.{AllPairs-cons}
use Rattle.std.proofs.lemmas.List.Elements.{Contains-get_or}
use Rattle.std.proofs.lemmas.List.Sums.{sum_by-cons}
use Rattle.std.specs.Int.{bit_at}
use lib.Count.{ones_step}
use Rattle.bit_rows.specs.Words.{IsIn, AreWords, ones_of}
use Rattle.bit_rows.proofs.Bits.{in_range}
use Rattle.slicer_ids.specs.Sets.{IsListOf}

abbrev pub where_set : (ℕ → Bool) → ℕ → ℕ → List ℕ
where_set f zero b = []
where_set f (suc d) b = cond (f b) (b ∷ where_set f d (suc b)) (where_set f d (suc b))

pub here : {A : Type 0} (x : A) (xs : List A) → Contains (x ∷ xs) x
here x xs = (0, omega arith, refl)

pub later : {A : Type 0} (x y : A) (xs : List A) → Contains xs y → Contains (x ∷ xs) y
later x y xs c = (suc c.0, omega (arith, c.1), c.2)

pub front_or : {A : Type 0} (x y : A) (xs : List A) → Contains (x ∷ xs) y → (x ≡ y) ⊎ Contains xs y
front_or x y xs (zero, lt, e) = inl e
front_or x y xs (suc k, lt, e) = inr (k, omega (arith, lt), e)

pub each_set : (f : ℕ → Bool) (d b i : ℕ) → Contains (where_set f d b) i → (b ≤ i) × (i < b + d) × (f i ≡ true)
each_set f zero b i c = absurd (omega (arith, c.1))
each_set f (suc d) b i c = go (λ k. each_set f d (suc b) i k) (f b) refl c
  where
    rest : (Contains (where_set f d (suc b)) i → (suc b ≤ i) × (i < suc b + d) × (f i ≡ true)) → Contains (where_set f d (suc b)) i → (b ≤ i) × (i < b + suc d) × (f i ≡ true)
    rest more k = let h = more k in (omega (arith, h.0), omega (arith, h.1), h.2)

    go : (Contains (where_set f d (suc b)) i → (suc b ≤ i) × (i < suc b + d) × (f i ≡ true)) → (v : Bool) → f b ≡ v → Contains (cond v (b ∷ where_set f d (suc b)) (where_set f d (suc b))) i → (b ≤ i) × (i < b + suc d) × (f i ≡ true)
    go more false e k = rest more k
    go more true e k = elim (front_or b i (where_set f d (suc b)) k) [ inl is ↦ (omega (arith, is), omega (arith, is), ap f (sym is) ∙ e) | inr r ↦ rest more r ]

pub whole_set : (f : ℕ → Bool) (d b i : ℕ) → b ≤ i → i < b + d → f i ≡ true → Contains (where_set f d b) i
whole_set f zero b i le lt t = absurd (omega (arith, le, lt))
whole_set f (suc d) b i le lt t = go (λ l. whole_set f d (suc b) i l (omega (arith, lt)) t) (f b) refl
  where
    go : (suc b ≤ i → Contains (where_set f d (suc b)) i) → (v : Bool) → f b ≡ v → Contains (cond v (b ∷ where_set f d (suc b)) (where_set f d (suc b))) i
    go more false e = elim (cases_eq b i) [ inl is ↦ absurd (false≢true (sym e ∙ ap f is ∙ t)) | inr ne ↦ more (omega (arith, le, ne)) ]
    go more true e = elim (cases_eq b i) [ inl is ↦ subst (λ (z : ℕ). Contains (b ∷ where_set f d (suc b)) z) is (here b (where_set f d (suc b))) | inr ne ↦ later b i (where_set f d (suc b)) (more (omega (arith, le, ne))) ]

pub once_set : (f : ℕ → Bool) (d b : ℕ) → AllPairs (λ (x y : ℕ). x ≢ y) (where_set f d b)
once_set f zero b = λ i j e lt l. absurd (omega (arith, l))
once_set f (suc d) b = go (once_set f d (suc b)) (f b)
  where
    go : AllPairs (λ (x y : ℕ). x ≢ y) (where_set f d (suc b)) → (v : Bool) → AllPairs (λ (x y : ℕ). x ≢ y) (cond v (b ∷ where_set f d (suc b)) (where_set f d (suc b)))
    go more false = more
    go more true = AllPairs-cons (λ (x y : ℕ). x ≢ y) b (where_set f d (suc b)) (λ k e lt is. omega (arith, is, (each_set f d (suc b) (get_or (where_set f d (suc b)) k e) (Contains-get_or (where_set f d (suc b)) k e lt)).0)) more

by_bit : (X : List ℕ) (b : ℕ) (v : Bool) (k : ℕ) → v ≡ eqb k 1 → k < 2 → length (cond v (b ∷ X) X) ≡ k + length X
by_bit X b true k e lt = let one : k ≡ 1 = eqb-true k 1 (sym e) in omega (arith, one)
by_bit X b false k e lt = elim (cases_eq k 1) [ inl one ↦ absurd (false≢true (e ∙ eq-eqb k 1 one)) | inr ne ↦ omega (arith, ne, lt) ]

-- one word
one_word : (f : ℕ → Bool) (d w b c n e : ℕ) → w < 2 ^ d → n ≡ d + c → e ≡ b + d → ((j i : ℕ) → j < d → i ≡ b + j → f i ≡ eqb (bit_at w j) 1) → length (where_set f n b) ≡ count_ones w + length (where_set f c e)
one_word f zero w b c n e lt en ee h =
    let z : w ≡ 0 = omega (arith, lt) in
    let none : count_ones w ≡ 0 = omega (arith, ap count_ones z, ones_le_self 0) in
    let same : length (where_set f n b) ≡ length (where_set f c e) = ap (λ k. length (where_set f k b)) (omega (arith, en)) ∙ ap (λ k. length (where_set f c k)) (omega (arith, ee)) in
    omega (arith, none, same)
one_word f (suc d) w b c zero e lt en ee h = absurd (omega (arith, en))
one_word f (suc d) w b c (suc n) e lt en ee h =
    let first = by_bit (where_set f n (suc b)) b (f b) (bit_at w 0) (h 0 b (omega arith) (omega arith)) (bit_at-lt w 0) in
    let more = one_word f d (w / 2) (suc b) c n e (shr_below w d 1 (subst (λ m. w < 2 ^ m) (sym (add-one d)) lt)) (omega (arith, en)) (omega (arith, ee)) (λ j i l is. h (suc j) i (omega (arith, l)) (omega (arith, is)) ∙ ap (λ k. eqb k 1) (bit_at-suc w j)) in
    omega (arith, first, more, ones_step w, bit_at_lowest w)

all_words : (f : ℕ → Bool) (ws : List ℕ) (b n : ℕ) → AreWords ws → n ≡ 64 * length ws → ((i m : ℕ) → i < 64 * length ws → m ≡ b + i → f m ≡ eqb (bit_at (get_or ws (i / 64) 0) (i % 64)) 1) → length (where_set f n b) ≡ ones_of ws
all_words f [] b n all e h = let z : n ≡ 0 = omega (arith, e) in ap (λ k. length (where_set f k b)) z
all_words f (w ∷ ws) b n all e h =
    let first = one_word f 64 w b (64 * length ws) n (b + 64) (all 0) (omega (arith, e)) refl
    (λ j i l is. let r : j / 64 ≡ 0 = omega (arith, l) in let s : j % 64 ≡ j = omega (arith, l) in h j i (omega (arith, l)) is ∙ ap (λ k. eqb (bit_at (get_or (w ∷ ws) k 0) (j % 64)) 1) r ∙ ap (λ k. eqb (bit_at w k) 1) s) in
    let rest = all_words f ws (b + 64) (64 * length ws) (λ i. all (suc i)) refl
    (λ i m l is. let r : (i + 64) / 64 ≡ suc (i / 64) = omega arith in let s : (i + 64) % 64 ≡ i % 64 = omega arith in h (i + 64) m (omega (arith, l)) (omega (arith, is)) ∙ ap (λ k. eqb (bit_at (get_or (w ∷ ws) k 0) ((i + 64) % 64)) 1) r ∙ ap (λ k. eqb (bit_at (get_or ws (i / 64) 0) k) 1) s) in
    omega (arith, first, rest, sum_by-cons count_ones w ws)

test : List ℕ → ℕ → Bool
test ws i = eqb (bit_at (get_or ws (i / 64) 0) (i % 64)) 1

pub list_of_row : (ws : List ℕ) → AreWords ws → (xs : List ℕ) × IsListOf xs (IsIn ws) × (ones_of ws ≡ length xs)
unfolding test
list_of_row ws all = (
  where_set (test ws) (64 * length ws) 0,
  record {
    each = λ k d lt. let i : ℕ = get_or (where_set (test ws) (64 * length ws) 0) k d in eqb-true (bit_at (get_or ws (i / 64) 0) (i % 64)) 1 (each_set (test ws) (64 * length ws) 0 i (Contains-get_or (where_set (test ws) (64 * length ws) 0) k d lt)).2;
    once = once_set (test ws) (64 * length ws) 0;
    whole = λ i h. whole_set (test ws) (64 * length ws) 0 i (omega arith) (omega (arith, in_range ws i h)) (eq-eqb (bit_at (get_or ws (i / 64) 0) (i % 64)) 1 h);
  },
  sym (all_words (test ws) ws 0 (64 * length ws) all refl (λ i m l is. let same : m ≡ i = omega (arith, is) in ap (test ws) same)),
)
