-- The empty script has the empty text.
use Rattle.std.proofs.Common.{◌≡◌, ◌≢◌, ◌≤◌, ◌++◌, ℕ, false, List, [], ◌∷◌, length, refl, ap, arith}
use Rattle.std.proofs.lemmas.List.Elements.{All-nil}
use Rattle.dep_form.specs.declared.facts.Facts.{Facts}
use Rattle.session_form.specs.States.{at_first}
use Rattle.session_form.specs.Scripts.{IsOneLine, HasLines, IsAllowed, IsTaken, of_all, none, AreScriptReplies, IsScriptText}
use Rattle.session_form.proofs.OneScript.{one_splitting}

has_no_lines : HasLines [] [] []
has_no_lines = record { spells = refl; each = All-nil IsOneLine; last = All-nil (λ (b : ℕ). b ≢ 10) }

is_allowed : IsAllowed []
is_allowed = (omega arith, λ lines rest h. let e = one_splitting [] lines [] rest [] h has_no_lines in (omega (arith, ap length e.0), λ full. e.1))

none_longer : (more left : List ℕ) → [] ≡ more ++ left → length more ≤ 0
none_longer [] left e = omega arith
none_longer (x ∷ more) left e = absurd (cc e)

is_taken : IsTaken [] [] []
is_taken = record { begins = refl; allowed = is_allowed; longest = λ more left e a. none_longer more left e }

pub empty_text : (f : Facts) → IsScriptText f [] []
empty_text f =
    let replies : AreScriptReplies f [] [] = record { is_cut = false; lines = []; replies = []; last = at_first; are_lines = of_all is_taken has_no_lines; are_replies = none; all = refl } in
    ([], replies, refl)
