-- The lines of a text: there is one way to cut it into lines.
use Rattle.std.proofs.Common.{◌≡◌, ◌≢◌, ◌≤◌, ◌<◌, ◌+◌, ◌++◌, ◌⊎◌, ℕ, zero, suc, List, [], ◌∷◌, length, refl, sym, ap, subst, ◌∙◌, inl, inr, arith}
use Rattle.std.specs.Prelude.{All}
use Rattle.std.specs.List.{flat_map}
use Rattle.std.proofs.lemmas.Bool.{cases_lt}
use Rattle.session_form.specs.Scripts.{IsOneLine, ended, HasLines}

abbrev pub hd : ℕ → List ℕ → ℕ
hd d [] = d
hd d (x ∷ xs) = x

abbrev pub tl : List ℕ → List ℕ
tl [] = []
tl (x ∷ xs) = xs

first_of : (x : ℕ) (xs : List ℕ) → IsOneLine (x ∷ xs) → x ≢ 10
first_of x xs all = all 0 x (omega arith)

rest_of : (x : ℕ) (xs : List ℕ) → IsOneLine (x ∷ xs) → IsOneLine xs
rest_of x xs all = λ k d lt. all (suc k) d (omega (arith, lt))

first_line : (l : List ℕ) (ls : List (List ℕ)) → All IsOneLine (l ∷ ls) → IsOneLine l
first_line l ls all = all 0 l (omega arith)

rest_lines : (l : List ℕ) (ls : List (List ℕ)) → All IsOneLine (l ∷ ls) → All IsOneLine ls
rest_lines l ls all = λ k d lt. all (suc k) d (omega (arith, lt))

-- ---- the first end of a line
first_end : (l k X Y : List ℕ) → l ++ (10 ∷ X) ≡ k ++ (10 ∷ Y) → IsOneLine l → IsOneLine k → (l ≡ k) × (X ≡ Y)
first_end [] [] X Y e p q = (refl, ap tl e)
first_end [] (y ∷ k) X Y e p q = absurd (first_of y k q (sym (ap (hd 0) e)))
first_end (x ∷ l) [] X Y e p q = absurd (first_of x l p (ap (hd 0) e))
first_end (x ∷ l) (y ∷ k) X Y e p q =
    let h = first_end l k X Y (ap tl e) (rest_of x l p) (rest_of y k q) in
    (ap (λ z. z ∷ l) (ap (hd 0) e) ∙ ap (λ z. y ∷ z) h.0, h.1)

-- a line with no end is none with one
no_end : (r l X : List ℕ) → r ≡ l ++ (10 ∷ X) → IsOneLine r → ⊥
no_end [] [] X e p = absurd (cc e)
no_end [] (y ∷ l) X e p = absurd (cc e)
no_end (x ∷ r) [] X e p = first_of x r p (ap (hd 0) e)
no_end (x ∷ r) (y ∷ l) X e p = no_end r l X (ap tl e) (rest_of x r p)

pub ended_then : (l X : List ℕ) → (ended l) ++ X ≡ l ++ (10 ∷ X)
ended_then [] X = refl
ended_then (x ∷ l) X = ap (λ z. x ∷ z) (ended_then l X)

pub append_is : (a b c : List ℕ) → (a ++ b) ++ c ≡ a ++ (b ++ c)
append_is [] b c = refl
append_is (x ∷ a) b c = ap (λ z. x ∷ z) (append_is a b c)

next_line : (l : List ℕ) (ls : List (List ℕ)) (r : List ℕ) → flat_map ended (l ∷ ls) ++ r ≡ l ++ (10 ∷ (flat_map ended ls ++ r))
next_line l ls r = append_is (ended l) (flat_map ended ls) r ∙ ended_then l (flat_map ended ls ++ r)

lines_are : (ls ks : List (List ℕ)) (r q : List ℕ) → flat_map ended ls ++ r ≡ flat_map ended ks ++ q → All IsOneLine ls → All IsOneLine ks → IsOneLine r → IsOneLine q →
    (ls ≡ ks) × (r ≡ q)
lines_are [] [] r q e a b p o = (refl, e)
lines_are [] (k ∷ ks) r q e a b p o = absurd (no_end r k (flat_map ended ks ++ q) (e ∙ next_line k ks q) p)
lines_are (l ∷ ls) [] r q e a b p o = absurd (no_end q l (flat_map ended ls ++ r) (sym e ∙ next_line l ls r) o)
lines_are (l ∷ ls) (k ∷ ks) r q e a b p o =
    let h = first_end l k (flat_map ended ls ++ r) (flat_map ended ks ++ q) (sym (next_line l ls r) ∙ e ∙ next_line k ks q) (first_line l ls a) (first_line k ks b) in
    let g = lines_are ls ks r q h.1 (rest_lines l ls a) (rest_lines k ks b) p o in
    (ap (λ z. z ∷ ls) h.0 ∙ ap (λ z. k ∷ z) g.0, g.1)

pub one_splitting : (bytes : List ℕ) (ls ks : List (List ℕ)) (r q : List ℕ) → HasLines bytes ls r → HasLines bytes ks q → (ls ≡ ks) × (r ≡ q)
one_splitting bytes ls ks r q h g = lines_are ls ks r q (sym h.spells ∙ g.spells) h.each g.each h.last g.last

-- ---- a text has lines, and a rest that is none of them
no_lines : All IsOneLine []
no_lines = λ k d lt. absurd (omega (arith, lt))

no_bytes : IsOneLine []
no_bytes = λ k d lt. absurd (omega (arith, lt))

one_byte_more : (x : ℕ) (l : List ℕ) → x ≢ 10 → IsOneLine l → IsOneLine (x ∷ l)
one_byte_more x l no_end' all zero d lt = no_end'
one_byte_more x l no_end' all (suc k) d lt = all k d (omega (arith, lt))

one_line_more : (l : List ℕ) (ls : List (List ℕ)) → IsOneLine l → All IsOneLine ls → All IsOneLine (l ∷ ls)
one_line_more l ls one all zero d lt = one
one_line_more l ls one all (suc k) d lt = all k d (omega (arith, lt))

ends_or_not : (x : ℕ) → (x ≡ 10) ⊎ (x ≢ 10)
ends_or_not x = elim (cases_lt x 10) [
  | inl lt ↦ inr (λ e. omega (arith, lt, e))
  | inr ge ↦ elim (cases_lt 10 x) [ inl gt ↦ inr (λ e. omega (arith, gt, e)) | inr le ↦ inl (omega (arith, ge, le)) ]
]

pub splitting : (bytes : List ℕ) → (ls : List (List ℕ)) × (r : List ℕ) × HasLines bytes ls r
splitting [] = ([], [], record { spells = refl; each = no_lines; last = no_bytes })
splitting (x ∷ bytes) = elim (ends_or_not x) [
  | inl e ↦ let h = splitting bytes in
      ([] ∷ h.0, h.1, record { spells = ap (λ z. z ∷ bytes) e ∙ ap (λ z. 10 ∷ z) h.2.spells; each = one_line_more [] h.0 no_bytes h.2.each; last = h.2.last })
  | inr n ↦ before x n (splitting bytes)
]
  where
    before : (y : ℕ) → y ≢ 10 → ((ls : List (List ℕ)) × (r : List ℕ) × HasLines bytes ls r) → (ls : List (List ℕ)) × (r : List ℕ) × HasLines (y ∷ bytes) ls r
    before y n ([], r, h) = ([], y ∷ r, record { spells = ap (λ z. y ∷ z) h.spells; each = no_lines; last = one_byte_more y r n h.last })
    before y n (l ∷ ls, r, h) = ((y ∷ l) ∷ ls, r, record { spells = ap (λ z. y ∷ z) h.spells; each = one_line_more (y ∷ l) ls (one_byte_more y l n (first_line l ls h.each)) (rest_lines l ls h.each); last = h.last })
