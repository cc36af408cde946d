-- The text of a line ends at its end of line, and the first letter after the number tells how the session ended.
use Rattle.std.proofs.Common.{◌≡◌, ◌<◌, ◌++◌, ◌+◌, ◌/◌, ◌%◌, ◌&&◌, ℕ, zero, suc, Bool, true, false, List, [], ◌∷◌, codes, ltb, refl, sym, ap, ◌∙◌, arith}
use Rattle.std.specs.Prelude.{if◌then◌else◌, nat_lt, ◌==◌}
use Rattle.std.specs.Fmt.{decimal, digits, digits_onto, digit_glyph}
use Rattle.std.proofs.lemmas.Bool.{and_parts, ltb-true}
use Rattle.std.proofs.lemmas.List.{append_cancel_left}
use Rattle.run_form.specs.Said.{Ending, Done, ReadFault, WriteFault, NoMemory, ending_text}

abbrev pub hd : ℕ → List ℕ → ℕ
hd d [] = d
hd d (x ∷ xs) = x

abbrev tl : List ℕ → List ℕ
tl [] = []
tl (x ∷ xs) = xs

-- no byte ends a line
abbrev pub IsText : List ℕ → Type 0
IsText [] = Unit {0}
IsText (x ∷ xs) = (10 < x) × IsText xs

abbrev is_text : List ℕ → Bool
is_text [] = true
is_text (x ∷ xs) = ltb 10 x && is_text xs

text_by : (xs : List ℕ) → is_text xs ≡ true → IsText xs
text_by [] e = tt
text_by (x ∷ xs) e = let p = and_parts (ltb 10 x) (is_text xs) e in (ltb-true 10 x p.0, text_by xs p.1)

joined : (xs ys : List ℕ) → IsText xs → IsText ys → IsText (xs ++ ys)
joined [] ys h g = g
joined (x ∷ xs) ys h g = (h.0, joined xs ys h.1 g)

either : (b : Bool) (xs ys : List ℕ) → IsText xs → IsText ys → IsText (if b then xs else ys)
either true xs ys h g = h
either false xs ys h g = g

glyph : (b : Bool) (d : ℕ) → 10 < (if b then 48 + d else 87 + d)
glyph true d = omega arith
glyph false d = omega arith

digits_text : (k n : ℕ) (after : List ℕ) → IsText after → IsText (digits_onto k 10 false n after)
digits_text zero n after h = h
digits_text (suc k) n after h =
    let longer : IsText (digit_glyph false (n % 10) ∷ after) = (glyph (nat_lt (n % 10) 10) (n % 10), h) in
    either (n / 10 == 0) (digit_glyph false (n % 10) ∷ after) (digits_onto k 10 false (n / 10) (digit_glyph false (n % 10) ∷ after)) longer
    (digits_text k (n / 10) (digit_glyph false (n % 10) ∷ after) longer)

number_text : (n : ℕ) → IsText (decimal n)
unfolding digits
number_text n = digits_text 64 n [] tt

counted : (word : List ℕ) (n : ℕ) → IsText word → IsText (word ++ decimal n ++ codes " replies")
counted word n h = joined (word ++ decimal n) (codes " replies") (joined word (decimal n) h (number_text n)) (text_by (codes " replies") refl)

ending_is_text : (e : Ending) → IsText (ending_text e)
ending_is_text (Done n) = counted (codes "done ") n (text_by (codes "done ") refl)
ending_is_text (ReadFault n) = counted (codes "read fault after ") n (text_by (codes "read fault after ") refl)
ending_is_text (WriteFault n) = counted (codes "write fault after ") n (text_by (codes "write fault after ") refl)
ending_is_text (NoMemory n) = counted (codes "no memory after ") n (text_by (codes "no memory after ") refl)

-- the line on a session without its end
abbrev pub session_text : ℕ → Ending → List ℕ
session_text k e = codes "session " ++ decimal k ++ codes " " ++ ending_text e

pub session_is_text : (k : ℕ) (e : Ending) → IsText (session_text k e)
session_is_text k e =
    joined (codes "session " ++ decimal k ++ codes " ") (ending_text e)
    (joined (codes "session " ++ decimal k) (codes " ") (joined (codes "session ") (decimal k) (text_by (codes "session ") refl) (number_text k)) (text_by (codes " ") refl)) (ending_is_text e)

-- two texts that begin with a line have one first line
pub one_line : (s t x y : List ℕ) → IsText s → IsText t → (s ++ 10 ∷ []) ++ x ≡ (t ++ 10 ∷ []) ++ y → (s ≡ t) × (x ≡ y)
one_line [] [] x y h g e = (refl, ap tl e)
one_line [] (b ∷ t) x y h g e = let same : 10 ≡ b = ap (hd 0) e in absurd (omega (arith, same, g.0))
one_line (a ∷ s) [] x y h g e = let same : a ≡ 10 = ap (hd 0) e in absurd (omega (arith, same, h.0))
one_line (a ∷ s) (b ∷ t) x y h g e =
    let r = one_line s t x y h.1 g.1 (ap tl e) in
    (ap (λ z. z ∷ s) (ap (hd 0) e) ∙ ap (λ z. b ∷ z) r.0, r.1)

-- the letter that tells how a session ended
abbrev pub letter : Ending → ℕ
letter (Done n) = 100
letter (ReadFault n) = 114
letter (WriteFault n) = 119
letter (NoMemory n) = 110

first_letter : (e : Ending) → hd 0 (ending_text e) ≡ letter e
first_letter (Done n) = refl
first_letter (ReadFault n) = refl
first_letter (WriteFault n) = refl
first_letter (NoMemory n) = refl

pub one_letter : (k : ℕ) (d e : Ending) → session_text k d ≡ session_text k e → letter d ≡ letter e
one_letter k d e same =
    let ends : ending_text d ≡ ending_text e = append_cancel_left (codes "session " ++ decimal k ++ codes " ") (ending_text d) (ending_text e) same in
    sym (first_letter d) ∙ ap (hd 0) ends ∙ first_letter e
