-- What words stand for: each word for one text.
use Rattle.std.proofs.Common.{◌≡◌, ◌≢◌, ◌<◌, ◌≤◌, ◌+◌, ◌-◌, ◌*◌, ◌⊎◌, ℕ, zero, suc, List, [], ◌∷◌, ◌++◌, length, drop, get_or, refl, sym, ap, ◌∙◌, subst, inl, inr, arith}
use Rattle.std.proofs.Math.Seq.{drop-cons}
use Rattle.std.proofs.lemmas.Bool.{cases_lt}
use Rattle.std.proofs.lemmas.List.{append_assoc}
use Rattle.slicer_ids.specs.Escapes.{IsHexDigit, BeginsEscape, BeginsPlain, BeginsWith, StandsFor}

hex_one : (d v w : ℕ) → IsHexDigit d v → IsHexDigit d w → v ≡ w
hex_one d v w (inl a) (inl b) = omega arith
hex_one d v w (inl a) (inr b) = omega arith
hex_one d v w (inr a) (inl b) = omega arith
hex_one d v w (inr a) (inr b) = omega arith

-- an escape gives one byte and one rest
escape_one : (w : List ℕ) (b c : ℕ) (r s : List ℕ) → BeginsEscape w b r → BeginsEscape w c s → (b ≡ c) × (r ≡ s)
escape_one w b c r s e f =
    let firsts : e.first ≡ f.first = cc (e.spells, f.spells) in
    let seconds : e.second ≡ f.second = cc (e.spells, f.spells) in
    let highs = hex_one f.first e.high f.high (subst (λ d. IsHexDigit d e.high) firsts e.is_high) f.is_high in
    let lows = hex_one f.second e.low f.low (subst (λ d. IsHexDigit d e.low) seconds e.is_low) f.is_low in
    (omega (arith, e.gives, f.gives, highs, lows), cc (e.spells, f.spells))

pub begins_one : (w : List ℕ) (b c : ℕ) (r s : List ℕ) → BeginsWith w b r → BeginsWith w c s → (b ≡ c) × (r ≡ s)
begins_one w b c r s (inl e) (inl f) = escape_one w b c r s e f
begins_one w b c r s (inl e) (inr p) = absurd (p.0 b r e)
begins_one w b c r s (inr p) (inl f) = absurd (p.0 c s f)
begins_one w b c r s (inr p) (inr q) = (cc (p.1, q.1), cc (p.1, q.1))

pub begins_shorter : (w : List ℕ) (b : ℕ) (r : List ℕ) → BeginsWith w b r → length r < length w
begins_shorter w b r (inl e) = omega (arith, ap length e.spells)
begins_shorter w b r (inr p) = omega (arith, ap length p.1)

pub not_nil : (w : List ℕ) (b : ℕ) (r : List ℕ) → BeginsWith w b r → w ≢ []
not_nil w b r h e = omega (arith, ap length e, begins_shorter w b r h)

decide_hex : (d : ℕ) → ((v : ℕ) × IsHexDigit d v) ⊎ ((v : ℕ) → IsHexDigit d v → ⊥)
decide_hex d = elim (cases_lt d 48) [
  | inl low ↦ inr (λ v h. no_low d v low h)
  | inr ge ↦ elim (cases_lt d 58) [
    | inl digit ↦ inl (d - 48, inl (omega arith, omega arith))
    | inr above ↦ elim (cases_lt d 97) [
      | inl gap ↦ inr (λ v h. no_gap d v above gap h)
      | inr letter ↦ elim (cases_lt d 103) [
        | inl is ↦ inl (d - 87, inr (omega arith, omega arith, omega arith))
        | inr high ↦ inr (λ v h. no_high d v high h)
      ]
    ]
  ]
]
  where
    no_low : (d v : ℕ) → d < 48 → IsHexDigit d v → ⊥
    no_low d v l (inl h) = omega arith
    no_low d v l (inr h) = omega arith

    no_gap : (d v : ℕ) → 58 ≤ d → d < 97 → IsHexDigit d v → ⊥
    no_gap d v a g (inl h) = omega arith
    no_gap d v a g (inr h) = omega arith

    no_high : (d v : ℕ) → 103 ≤ d → IsHexDigit d v → ⊥
    no_high d v a (inl h) = omega arith
    no_high d v a (inr h) = omega arith

pub plain_first : (w : List ℕ) → get_or w 0 0 ≢ 92 → BeginsPlain w
plain_first w ne b r e = ne (ap (λ xs. get_or xs 0 0) e.spells)

pub plain_high : (w : List ℕ) → ((v : ℕ) → IsHexDigit (get_or w 1 0) v → ⊥) → BeginsPlain w
plain_high w not_hex b r e = not_hex e.high (subst (λ d. IsHexDigit d e.high) (sym (ap (λ xs. get_or xs 1 0) e.spells)) e.is_high)

pub plain_low : (w : List ℕ) → ((v : ℕ) → IsHexDigit (get_or w 2 0) v → ⊥) → BeginsPlain w
plain_low w not_hex b r e = not_hex e.low (subst (λ d. IsHexDigit d e.low) (sym (ap (λ xs. get_or xs 2 0) e.spells)) e.is_low)

pub plain_short : (w : List ℕ) → length w < 3 → BeginsPlain w
plain_short w h b r e = omega (arith, ap length e.spells)

three : (w : List ℕ) → 3 ≤ length w → w ≡ get_or w 0 0 ∷ get_or w 1 0 ∷ get_or w 2 0 ∷ drop 3 w
three [] h = absurd (omega arith)
three (a ∷ []) h = absurd (omega arith)
three (a ∷ b ∷ []) h = absurd (omega arith)
three (a ∷ b ∷ c ∷ w) h = refl

pub escape_from : (w : List ℕ) (high low : ℕ) → 3 ≤ length w → get_or w 0 0 ≡ 92 → IsHexDigit (get_or w 1 0) high → IsHexDigit (get_or w 2 0) low
    → BeginsEscape w (16 * high + low) (drop 3 w)
escape_from w high low l e h k = record {
  high = high;
  low = low;
  first = get_or w 1 0;
  second = get_or w 2 0;
  is_high = h;
  is_low = k;
  spells = subst (λ a. w ≡ a ∷ get_or w 1 0 ∷ get_or w 2 0 ∷ drop 3 w) e (three w l);
  gives = refl;
}

decide_escape : (w : List ℕ) → ((b : ℕ) × (r : List ℕ) × BeginsEscape w b r) ⊎ BeginsPlain w
decide_escape w = elim (cases_lt (length w) 3) [
  | inl short ↦ inr (plain_short w short)
  | inr long ↦ elim (decide_hex (get_or w 1 0)) [
    | inr not_hex ↦ inr (plain_high w not_hex)
    | inl high ↦ elim (decide_hex (get_or w 2 0)) [
      | inr not_hex ↦ inr (plain_low w not_hex)
      | inl low ↦ elim (cases_eq (get_or w 0 0) 92) [
        | inr ne ↦ inr (plain_first w ne)
        | inl eq ↦ inl (16 * high.0 + low.0, drop 3 w, escape_from w high.0 low.0 long eq high.1 low.1)
      ]
    ]
  ]
]
  where
    cases_eq : (a b : ℕ) → (a ≡ b) ⊎ (a ≢ b)
    cases_eq a b = elim (cases_lt a b) [
      | inl lt ↦ inr (λ e. omega arith)
      | inr ge ↦ elim (cases_lt b a) [ inl gt ↦ inr (λ e. omega arith) | inr le ↦ inl (omega arith) ]
    ]

pub begins_some : (x : ℕ) (xs : List ℕ) → (b : ℕ) × (r : List ℕ) × BeginsWith (x ∷ xs) b r
begins_some x xs = elim (decide_escape (x ∷ xs)) [ inl e ↦ (e.0, e.1, inl e.2) | inr p ↦ (x, xs, inr (p, refl)) ]

pub stands_one : (w : List ℕ) (xs ys : List ℕ) → StandsFor w xs → StandsFor w ys → xs ≡ ys
stands_one w [] [] h k = refl
stands_one w [] (y ∷ ys) h k = absurd (not_nil w y k.0 k.1 h)
stands_one w (x ∷ xs) [] h k = absurd (not_nil w x h.0 h.1 k)
stands_one w (x ∷ xs) (y ∷ ys) h k =
    let e = begins_one w x y h.0 k.0 h.1 k.1 in
    let t = stands_one k.0 xs ys (subst (λ r. StandsFor r xs) e.1 h.2) k.2 in
    cc (e.0, t)

stands_within : (n : ℕ) (w : List ℕ) → length w ≤ n → (xs : List ℕ) × StandsFor w xs
stands_within n [] h = ([], refl)
stands_within zero (x ∷ w) h = absurd (omega arith)
stands_within (suc n) (x ∷ w) h =
    let b = begins_some x w in
    let t = stands_within n b.1 (omega (arith, begins_shorter (x ∷ w) b.0 b.1 b.2)) in
    (b.0 ∷ t.0, (b.1, b.2, t.1))

-- each word stands for a text
pub stands_some : (w : List ℕ) → (xs : List ℕ) × StandsFor w xs
stands_some w = stands_within (length w) w (omega arith)

-- the word was read up to the rest, and what was read stands for the text
pub record IsReadAs (word text rest : List ℕ) : Type 0 where
  pub forward : (xs : List ℕ) → StandsFor rest xs → StandsFor word (text ++ xs)
  pub back : (xs : List ℕ) → StandsFor word xs → (ys : List ℕ) × (xs ≡ text ++ ys) × StandsFor rest ys

pub read_none : (word : List ℕ) → IsReadAs word [] word
read_none word = record { forward = λ xs h. h; back = λ xs h. (xs, refl, h) }

pub read_more : (word text rest : List ℕ) (b : ℕ) (more : List ℕ) → IsReadAs word text rest → BeginsWith rest b more → IsReadAs word (text ++ b ∷ []) more
read_more word text rest b more h e = record {
  forward = λ xs s. subst (StandsFor word) (sym (append_assoc text (b ∷ []) xs)) (h.forward (b ∷ xs) (more, e, s));
  back = λ xs s. let k = h.back xs s in next xs k.0 k.1 k.2;
}
  where
    next : (xs ys : List ℕ) → xs ≡ text ++ ys → StandsFor rest ys → (zs : List ℕ) × (xs ≡ (text ++ b ∷ []) ++ zs) × StandsFor more zs
    next xs [] p s = absurd (not_nil rest b more e s)
    next xs (y ∷ ys) p s =
        let o = begins_one rest y b s.0 more s.1 e in
        (ys, p ∙ ap (λ c. text ++ c ∷ ys) o.0 ∙ sym (append_assoc text (b ∷ []) ys), subst (λ r. StandsFor r ys) o.1 s.2)

pub read_all : (word text : List ℕ) → IsReadAs word text [] → StandsFor word text
read_all word text h = subst (StandsFor word) (append-nil text) (h.forward [] refl)
  where
    append-nil : (xs : List ℕ) → xs ++ [] ≡ xs
    append-nil [] = refl
    append-nil (x ∷ xs) = ap (λ ys. x ∷ ys) (append-nil xs)

stands_next : (rest : List ℕ) (b : ℕ) (more xs : List ℕ) → BeginsWith rest b more → StandsFor rest (b ∷ xs) → StandsFor more xs
stands_next rest b more xs e s = subst (λ r. StandsFor r xs) (begins_one rest b b s.0 more s.1 e).1 s.2

at_index : (text : List ℕ) (i : ℕ) → i < length text → drop i text ≡ get_or text i 0 ∷ drop (i + 1) text
at_index text i h =
    let e : suc i ≡ i + 1 = omega arith in
    subst (λ j. drop i text ≡ get_or text i 0 ∷ drop j text) e (drop-cons text i 0 h)

-- one byte of the text is read
pub text_forward : (rest text more : List ℕ) (i b : ℕ) → i < length text → b ≡ get_or text i 0 → BeginsWith rest b more → StandsFor rest (drop i text) → StandsFor more (drop (i + 1) text)
text_forward rest text more i b h e w s =
    stands_next rest b more (drop (i + 1) text) w (subst (StandsFor rest) (at_index text i h ∙ ap (λ c. c ∷ drop (i + 1) text) (sym e)) s)

pub text_back : (rest text more : List ℕ) (i b : ℕ) → i < length text → b ≡ get_or text i 0 → BeginsWith rest b more → StandsFor more (drop (i + 1) text) → StandsFor rest (drop i text)
text_back rest text more i b h e w s =
    subst (StandsFor rest) (sym (at_index text i h ∙ ap (λ c. c ∷ drop (i + 1) text) (sym e))) (more, w, s)

-- another byte stands there
pub text_stops : (rest text : List ℕ) (i b : ℕ) → i < length text → b ≡ get_or text i 0 → ((r : List ℕ) → BeginsWith rest b r → ⊥) → StandsFor rest (drop i text) → ⊥
text_stops rest text i b h e w s =
    let t = subst (StandsFor rest) (at_index text i h ∙ ap (λ c. c ∷ drop (i + 1) text) (sym e)) s in w t.0 t.1
