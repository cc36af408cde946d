-- The lines that were taken are the first of a script.
use Rattle.std.proofs.Common.{◌≡◌, ◌≤◌, ◌<◌, ◌+◌, ◌^◌, ◌++◌, Bool, true, false, ℕ, List, [], ◌∷◌, length, Option, Some, refl, sym, ap, subst, ◌∙◌, arith}
use Rattle.std.specs.Prelude.{All}
use Rattle.std.specs.List.{flat_map}
use Rattle.std.proofs.lemmas.List.{append-nil}
use Rattle.session_form.specs.Scripts.{IsOneLine, ended, HasLines, IsTaken, AreLines, of_all, of_rest, of_cut}
use Rattle.script_lines.specs.declared.reader.ScriptReader.{ScriptReader}
use Rattle.script_lines.specs.Reading.{unread, HasTaken, IsBetween}
use Rattle.script_lines.proofs.Splitting.{hd, tl, one_splitting, splitting}
use Rattle.script_lines.proofs.Taking.{allowed, lines_on}

-- of two beginnings the longer one goes on from the shorter one
longer_goes_on : (a b c d : List ℕ) → a ++ b ≡ c ++ d → length c ≤ length a → (m : List ℕ) × (a ≡ c ++ m)
longer_goes_on a b [] d e le = (a, refl)
longer_goes_on [] b (y ∷ c) d e le = absurd (omega (arith, le))
longer_goes_on (x ∷ a) b (y ∷ c) d e le =
    let h = longer_goes_on a b c d (ap tl e) (omega (arith, le)) in
    (h.0, ap (λ z. z ∷ a) (ap (hd 0) e) ∙ ap (λ z. y ∷ z) h.1)

lines_append : (a b c : List (List ℕ)) → (a ++ b) ++ c ≡ a ++ (b ++ c)
lines_append [] b c = refl
lines_append (x ∷ a) b c = ap (λ z. x ∷ z) (lines_append a b c)

-- a text that begins with lines has these lines first
begins_with : (text tail : List ℕ) (lines ls : List (List ℕ)) (q : List ℕ) → text ≡ flat_map ended lines ++ tail → All IsOneLine lines → HasLines text ls q → (more : List (List ℕ)) × (ls ≡ lines ++ more)
begins_with text tail lines ls q e each h =
    let s = splitting tail in
    let first : HasLines (flat_map ended lines) lines [] = record { spells = sym (append-nil (flat_map ended lines)); each = each; last = λ k d lt. absurd (omega (arith, lt)) } in
    let both = lines_on lines s.0 (flat_map ended lines) tail s.1 first s.2 in
    let same = one_splitting text ls (lines ++ s.0) q s.1 h (subst (λ z. HasLines z (lines ++ s.0) s.1) (sym e) both) in
    (s.0, same.0)

module _ (script : List ℕ) (lines : List (List ℕ)) (tail : List ℕ) (e : script ≡ flat_map ended lines ++ tail) (each : All IsOneLine lines) (few : length lines ≤ 2 ^ 20) (small : length (flat_map ended lines) ≤ 2 ^ 28) where
  come_first : (is_cut : Bool) (ls : List (List ℕ)) → AreLines script is_cut ls → (more : List (List ℕ)) × (ls ≡ lines ++ more)
  come_first _ _ (of_all {taken} {lines = ls} t h) = begins_with taken tail lines ls [] (sym (append-nil taken) ∙ sym t.begins ∙ e) each h
  come_first _ _ (of_rest {taken} {lines = ls} {rest} t h some) =
      let m = begins_with taken tail lines ls rest (sym (append-nil taken) ∙ sym t.begins ∙ e) each h in
      (m.0 ++ (rest ∷ []), ap (λ z. z ++ (rest ∷ [])) m.1 ∙ lines_append lines m.0 (rest ∷ []))
  come_first _ _ (of_cut {taken} {after} {lines = ls} {rest} t some h) =
      let first : HasLines (flat_map ended lines) lines [] = record { spells = sym (append-nil (flat_map ended lines)); each = each; last = λ k d lt. absurd (omega (arith, lt)) } in
      let good = allowed (flat_map ended lines) lines [] first small few (λ l. refl) in
      let on = longer_goes_on taken after (flat_map ended lines) tail (sym t.begins ∙ e) (t.longest (flat_map ended lines) tail e good) in
      begins_with taken on.0 lines ls rest on.1 each h

pub first_lines : (script : List ℕ) (lines ls : List (List ℕ)) (r : ScriptReader) (left : Option (List ℕ)) (is_cut : Bool) → IsBetween script lines r left → AreLines script is_cut ls → (more : List (List ℕ)) × (ls ≡ lines ++ more)
first_lines script lines ls r left is_cut (l, told, t) are =
    come_first script lines (unread r ++ l) t.spells t.each (omega (arith, t.counted, r.few_lines)) (omega (arith, t.sized, r.few_bytes)) is_cut ls are
