-- A line on a session that is among the lines of sessions is that of the session of its number.
use Rattle.std.proofs.Common.{◌≡◌, ◌++◌, ◌+◌, ℕ, zero, suc, List, [], ◌∷◌, length, take, Some, refl, sym, ap, subst, ◌∙◌, arith, append_assoc}
use Rattle.std.specs.Prelude.{slice_get}
use Rattle.std.proofs.lemmas.Option.{slice_get_within}
use Rattle.run_form.specs.Said.{Ending, session_line, session_lines}
use Rattle.run_laws.specs.Told.{IsSaid}
use Rattle.run_laws.proofs.LineText.{hd, letter, session_text, session_is_text, one_line, one_letter}

-- so the session of this number ended
abbrev pub EndsLike : List Ending → ℕ → Ending → Type 0
EndsLike ends number d = (e : Ending) × (slice_get ends number ≡ Some e) × (letter e ≡ letter d)

said_at : (i : ℕ) (es bs : List Ending) (k : ℕ) (d : Ending) (left : List ℕ) → k ≡ i + length bs → session_lines i es ≡ session_lines i bs ++ (session_line k d ++ left) → EndsLike es (length bs) d
said_at i [] [] k d left n e = let same : 0 ≡ 115 = ap (hd 0) e in absurd (omega (arith, same))
said_at i [] (b ∷ bs) k d left n e = let same : 0 ≡ 115 = ap (hd 0) e in absurd (omega (arith, same))
said_at i (a ∷ es) [] k d left n e =
    let number : k ≡ i = omega (arith, n) in
    let here = one_line (session_text i a) (session_text i d) (session_lines (suc i) es) left (session_is_text i a) (session_is_text i d) (e ∙ ap (λ z. session_line z d ++ left) number) in
    (a, refl, one_letter i a d here.0)
said_at i (a ∷ es) (b ∷ bs) k d left n e =
    let rest : List ℕ = session_line k d ++ left in
    let here =
    one_line (session_text i a) (session_text i b) (session_lines (suc i) es) (session_lines (suc i) bs ++ rest) (session_is_text i a) (session_is_text i b)
    (e ∙ append_assoc (session_line i b) (session_lines (suc i) bs) rest) in
    let more = said_at (suc i) es bs k d left (omega (arith, n)) here.1 in
    (more.0, more.1, more.2)

-- nothing that is said is on a session
pub never_said : (told : List ℕ) (k : ℕ) (d : Ending) → told ≡ [] → IsSaid told k d → ⊥
never_said told k d none h = absurd (empty h.before (sym none ∙ h.spells))
  where
    empty : (bs : List Ending) → [] ≡ session_lines 1 bs ++ (session_line (suc k) d ++ h.left) → ⊥
    empty [] e = let same : 0 ≡ 115 = ap (hd 0) e in omega (arith, same)
    empty (b ∷ bs) e = let same : 0 ≡ 115 = ap (hd 0) e in omega (arith, same)

from_first : (n k : ℕ) (es : List Ending) (e : Ending) → slice_get (take n es) k ≡ Some e → slice_get es k ≡ Some e
from_first zero k es e h = absurd (omega (arith, slice_get_within (take zero es) k e h))
from_first (suc n) k [] e h = h
from_first (suc n) zero (x ∷ es) e h = h
from_first (suc n) (suc k) (x ∷ es) e h = from_first n k es e h

pub said_of_all : (ends : List Ending) (told : List ℕ) (k : ℕ) (d : Ending) → told ≡ session_lines 1 ends → IsSaid told k d → EndsLike ends k d
said_of_all ends told k d all h = subst (λ z. EndsLike ends z d) h.count (said_at 1 ends h.before (suc k) d h.left (omega (arith, h.count)) (sym all ∙ h.spells))

pub said_of_first : (ends : List Ending) (n : ℕ) (told : List ℕ) (k : ℕ) (d : Ending) → told ≡ session_lines 1 (take n ends) → IsSaid told k d → EndsLike ends k d
said_of_first ends n told k d some h =
    let one = said_of_all (take n ends) told k d some h in
    (one.0, from_first n k ends one.0 one.1, one.2)
