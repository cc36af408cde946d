-- Each line has one list of words.
use Rattle.std.proofs.Common.{◌≡◌, ◌≢◌, ◌<◌, ◌≤◌, ◌+◌, ℕ, zero, suc, List, [], ◌∷◌, ◌++◌, length, refl, sym, ap, ◌∙◌, ◌⊎◌, subst, inl, inr, arith}
use Rattle.std.specs.Prelude.{All}
use Rattle.std.proofs.lemmas.List.{length-append}
use Rattle.std.proofs.lemmas.List.Elements.{All-nil, All-cons, All-head, All-tail, All-same}
use Rattle.std.proofs.lemmas.Bool.{cases_lt}
use Rattle.script.specs.Words.{IsBlank, IsWord, EndsWord, HasFirstWord, BeginsWithWords, HasWords}
use Rattle.script.specs.Steps.{HasFewerWords, HasOtherCount}

decide_blank : (b : ℕ) → IsBlank b ⊎ (IsBlank b → ⊥)
decide_blank b = elim (cases_eq b 32) [
  | inl e ↦ inl (inl e)
  | inr ne ↦ elim (cases_eq b 9) [ inl e ↦ inl (inr e) | inr nf ↦ inr (λ h. elim h [ inl e ↦ ne e | inr e ↦ nf e ]) ]
]
  where
    cases_eq : (a b : ℕ) → (a ≡ b) ⊎ (a ≢ b)
    cases_eq a b = elim (cases_lt a b) [
      | inl lt ↦ inr (λ e. omega arith)
      | inr ge ↦ elim (cases_lt b a) [ inl gt ↦ inr (λ e. omega arith) | inr le ↦ inl (omega arith) ]
    ]

-- the word ends where the rest begins
word_one : (w v r s : List ℕ) → All (λ b. IsBlank b → ⊥) w → All (λ b. IsBlank b → ⊥) v → EndsWord r → EndsWord s → w ++ r ≡ v ++ s → (w ≡ v) × (r ≡ s)
word_one [] [] r s h k a b e = (refl, e)
word_one [] (y ∷ v) [] s h k a b e = absurd (omega (arith, ap length e))
word_one [] (y ∷ v) (x ∷ r) s h k a b e = absurd (All-head (λ b. IsBlank b → ⊥) y v k (subst IsBlank (cc e) a))
word_one (x ∷ w) [] r [] h k a b e = absurd (omega (arith, ap length e))
word_one (x ∷ w) [] r (y ∷ s) h k a b e = absurd (All-head (λ b. IsBlank b → ⊥) x w h (subst IsBlank (cc e) b))
word_one (x ∷ w) (y ∷ v) r s h k a b e =
    let t = word_one w v r s (All-tail (λ b. IsBlank b → ⊥) x w h) (All-tail (λ b. IsBlank b → ⊥) y v k) a b (cc e) in
    let first : x ≡ y = cc e in
    (cc (first, t.0), t.1)

-- the gap ends where the word begins
gap_one : (g f w v r s : List ℕ) → All IsBlank g → All IsBlank f → IsWord w → IsWord v → EndsWord r → EndsWord s → g ++ (w ++ r) ≡ f ++ (v ++ s) → (w ≡ v) × (r ≡ s)
gap_one [] [] w v r s g f h k a b e = word_one w v r s h.1 k.1 a b e
gap_one [] (y ∷ f) [] v r s h k i j a b e = absurd (i.0 refl)
gap_one [] (y ∷ f) (x ∷ w) v r s h k i j a b e =
    absurd (All-head (λ b. IsBlank b → ⊥) x w i.1 (subst IsBlank (cc e) (All-head IsBlank y f k)))
gap_one (x ∷ g) [] w [] r s h k i j a b e = absurd (j.0 refl)
gap_one (x ∷ g) [] w (y ∷ v) r s h k i j a b e =
    absurd (All-head (λ b. IsBlank b → ⊥) y v j.1 (subst IsBlank (cc e) (All-head IsBlank x g h)))
gap_one (x ∷ g) (y ∷ f) w v r s h k i j a b e =
    gap_one g f w v r s (All-tail IsBlank x g h) (All-tail IsBlank y f k) i j a b (cc e)

pub first_one : (line w v r s : List ℕ) → HasFirstWord line w r → HasFirstWord line v s → (w ≡ v) × (r ≡ s)
first_one line w v r s h k =
    gap_one h.gap k.gap w v r s h.blanks k.blanks h.is_word k.is_word h.ends k.ends (sym h.spells ∙ k.spells)

-- a line with a word isn't blank
pub first_none : (line w r : List ℕ) → HasFirstWord line w r → All IsBlank line → ⊥
first_none line w r h all = in_gap h.gap w r h.is_word (All-same IsBlank (h.gap ++ (w ++ r)) line (sym h.spells) all)
  where
    in_gap : (g w r : List ℕ) → IsWord w → All IsBlank (g ++ (w ++ r)) → ⊥
    in_gap [] [] r i a = i.0 refl
    in_gap [] (x ∷ w) r i a = All-head (λ b. IsBlank b → ⊥) x w i.1 (All-head IsBlank x (w ++ r) a)
    in_gap (x ∷ g) w r i a = in_gap g w r i (All-tail IsBlank x (g ++ (w ++ r)) a)

pub words_one : (line : List ℕ) (xs ys : List (List ℕ)) → HasWords line xs → HasWords line ys → xs ≡ ys
words_one line [] [] h k = refl
words_one line [] (y ∷ ys) h k = absurd (first_none line y k.1.0 k.1.1 (All-same IsBlank line h.0 h.1 h.2))
words_one line (x ∷ xs) [] h k = absurd (first_none line x h.1.0 h.1.1 (All-same IsBlank line k.0 k.1 k.2))
words_one line (x ∷ xs) (y ∷ ys) h k =
    let o = first_one line x y h.1.0 k.1.0 h.1.1 k.1.1 in
    let t = words_one k.1.0 xs ys (subst (λ l. HasWords l xs) o.1 (h.0, h.1.2, h.2)) (k.0, k.1.2, k.2) in
    cc (o.0, t)

pub first_shorter : (line w r : List ℕ) → HasFirstWord line w r → length r < length line
first_shorter line [] r h = absurd (h.is_word.0 refl)
first_shorter line (x ∷ w) r h = omega (arith, ap length h.spells, length-append h.gap ((x ∷ w) ++ r), length-append (x ∷ w) r)

-- where the word ends
word_some : (line : List ℕ) → (w : List ℕ) × (r : List ℕ) × (line ≡ w ++ r) × All (λ b. IsBlank b → ⊥) w × EndsWord r
word_some [] = ([], [], refl, All-nil (λ b. IsBlank b → ⊥), tt)
word_some (x ∷ xs) = elim (decide_blank x) [
  | inl blank ↦ ([], x ∷ xs, refl, All-nil (λ b. IsBlank b → ⊥), blank)
  | inr other ↦ let t = word_some xs in (x ∷ t.0, t.1, ap (λ l. x ∷ l) t.2, All-cons (λ b. IsBlank b → ⊥) x t.0 other t.3, t.4)
]

-- a line is blank, or has a first word
pub first_some : (line : List ℕ) → All IsBlank line ⊎ ((w : List ℕ) × (r : List ℕ) × HasFirstWord line w r)
first_some [] = inl (All-nil IsBlank)
first_some (x ∷ xs) = elim (decide_blank x) [
  | inl blank ↦ elim (first_some xs) [
    | inl all ↦ inl (All-cons IsBlank x xs blank all)
    | inr h ↦ inr (
      h.0,
      h.1,
      record {
        gap = x ∷ h.2.gap;
        spells = ap (λ l. x ∷ l) h.2.spells;
        blanks = All-cons IsBlank x h.2.gap blank h.2.blanks;
        is_word = h.2.is_word;
        ends = h.2.ends;
      },
    )
  ]
  | inr other ↦ let t = word_some xs in inr (
    x ∷ t.0,
    t.1,
    record {
      gap = [];
      spells = ap (λ l. x ∷ l) t.2;
      blanks = All-nil IsBlank;
      is_word = ((λ e. omega (arith, ap length e)), All-cons (λ b. IsBlank b → ⊥) x t.0 other t.3);
      ends = t.4;
    },
  )
]

words_within : (n : ℕ) (line : List ℕ) → length line ≤ n → (ws : List (List ℕ)) × HasWords line ws
words_within zero line h = elim (first_some line) [
  | inl all ↦ ([], (line, refl, all))
  | inr f ↦ absurd (omega (arith, first_shorter line f.0 f.1 f.2))
]
words_within (suc n) line h = elim (first_some line) [
  | inl all ↦ ([], (line, refl, all))
  | inr f ↦
      let t = words_within n f.1 (omega (arith, first_shorter line f.0 f.1 f.2)) in
      (f.0 ∷ t.0, (t.1.0, (f.1, f.2, t.1.1), t.1.2))
]

-- each line has a list of words
pub words_some : (line : List ℕ) → (ws : List (List ℕ)) × HasWords line ws
words_some line = words_within (length line) line (omega arith)

begins-append : (line mid rest : List ℕ) (xs ys : List (List ℕ)) → BeginsWithWords line xs mid → BeginsWithWords mid ys rest → BeginsWithWords line (xs ++ ys) rest
begins-append line mid rest [] ys h k = subst (λ l. BeginsWithWords l ys rest) (sym h) k
begins-append line mid rest (x ∷ xs) ys h k = (h.0, h.1, begins-append h.0 mid rest xs ys h.2 k)

-- the words so far and those that follow
pub has-append : (line mid : List ℕ) (xs ys : List (List ℕ)) → BeginsWithWords line xs mid → HasWords mid ys → HasWords line (xs ++ ys)
has-append line mid xs ys h k = (k.0, begins-append line mid k.0 xs ys h k.1, k.2)

-- other words follow
pub other_count : (line mid : List ℕ) (xs : List (List ℕ)) (n : ℕ) → BeginsWithWords line xs mid → HasOtherCount mid n → HasOtherCount line (length xs + n)
other_count line mid xs n h k =
    (xs ++ k.0, has-append line mid xs k.0 h k.1, λ e. k.2 (omega (arith, length-append xs k.0)))

more_follow : (rest : List ℕ) → (All IsBlank rest → ⊥) → HasOtherCount rest 0
more_follow rest h = let t = words_some rest in (t.0, t.1, λ e. h (none t.0 t.1 e))
  where
    none : (ws : List (List ℕ)) → HasWords rest ws → length ws ≡ 0 → All IsBlank rest
    none [] k e = All-same IsBlank rest k.0 k.1 k.2
    none (w ∷ ws) k e = absurd (omega arith)

-- the words go on
pub goes_on : (line rest : List ℕ) (xs : List (List ℕ)) (n : ℕ) → length xs ≡ n → BeginsWithWords line xs rest → (All IsBlank rest → ⊥) → HasOtherCount line n
goes_on line rest xs n e h k = subst (HasOtherCount line) (omega arith) (other_count line rest xs 0 h (more_follow rest k))

-- the line ends too early
pub fewer : (line rest : List ℕ) (xs : List (List ℕ)) (n : ℕ) → length xs < n → BeginsWithWords line xs rest → All IsBlank rest → HasFewerWords line n
fewer line rest xs n l h k = (xs, (rest, h, k), l)
