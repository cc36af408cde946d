-- The lines of one statement more.
use Rattle.std.proofs.Common.{◌≡◌, ◌⊎◌, ◌↔◌, ◌<◌, ◌+◌, ℕ, List, [], ◌∷◌, ◌++◌, AllPairs, Contains, take, get_or, length, inl, inr, sym, ap, subst, ◌∙◌, arith}
use Rattle.std.proofs.lemmas.List.{take_more, length-take, get_or_default}
use Rattle.std.proofs.lemmas.List.Elements.{All-contains_itself, All-weaker, Contains-push, Contains-push_cases, Contains-append_left}
use Rattle.slicer_ids.specs.declared.ids.Statement.{Statement}
use Rattle.slicer_ids.specs.Sets.{IsOrderedListOf}
use Rattle.dep_form.specs.declared.facts.Facts.{Facts}
use Rattle.dep_form.specs.LookUps.{HasLine}
use Rattle.report.specs.declared.reply.LinePlace.{LinePlace}
use Rattle.session_form.specs.States.{LineBefore}
use Rattle.session_slices.specs.SliceLines.{IsLineOf, IsLineOfSome}
use Rattle.session_slices.proofs.LineOrder.{one_place, one_line}

module _ (f : Facts) (statements : List Statement) (i : ℕ) (s : Statement) (lt : i < length statements) (is : get_or statements i s ≡ s) where
  cut : take (i + 1) statements ≡ take i statements ++ s ∷ []
  cut = take_more statements i s lt ∙ ap (λ x. take i statements ++ x ∷ []) is

  pub line_more : (old : List LinePlace) (line : LinePlace) → IsLineOf f s line → ((l : LinePlace) → Contains old l ↔ IsLineOfSome f (Contains (take i statements)) l)
      → (l : LinePlace) → Contains (old ++ line ∷ []) l ↔ IsLineOfSome f (Contains (take (i + 1) statements)) l
  line_more old line of before l = (
    λ c. elim (Contains-push_cases old line l c) [
      | inl d ↦ let h = (before l).0 d in (h.0, subst (λ xs. Contains xs h.0) (sym cut) (Contains-append_left (take i statements) (s ∷ []) h.0 h.1), h.2, h.3)
      | inr e ↦ subst (IsLineOfSome f (Contains (take (i + 1) statements))) e (s, subst (λ xs. Contains xs s) (sym cut) (Contains-push (take i statements) s), of.0, of.1)
    ],
    λ h. elim (Contains-push_cases (take i statements) s h.0 (subst (λ xs. Contains xs h.0) cut h.1)) [
      | inl d ↦ Contains-append_left old (line ∷ []) l ((before l).1 (h.0, d, h.2, h.3))
      | inr e ↦
          let same : line ≡ l = one_place line l (of.0 ∙ ap (λ (t : Statement). t.method) e ∙ sym h.2) (one_line f s line.line l.line of.1 (subst (λ t. HasLine f t l.line) (sym e) h.3)) in
          subst (Contains (old ++ line ∷ [])) same (Contains-push old line)
    ],
  )

pub no_lines_yet : (f : Facts) (statements : List Statement) (lines : List LinePlace) → lines ≡ [] → (l : LinePlace) → Contains lines l ↔ IsLineOfSome f (Contains (take 0 statements)) l
no_lines_yet f statements lines nil l = (
  λ c. let bad : Contains {X = LinePlace} [] l = subst (λ (xs : List LinePlace). Contains xs l) nil c in absurd (omega (arith, bad.1)),
  λ h. absurd (omega (arith, h.1.1, length-take 0 statements)),
)

pub line_next : (f : Facts) (statements : List Statement) (i : ℕ) (d : Statement) (old new : List LinePlace) (line : LinePlace) → i < length statements → new ≡ old ++ line ∷ [] → IsLineOf f (get_or statements i d) line
    → ((l : LinePlace) → Contains old l ↔ IsLineOfSome f (Contains (take i statements)) l) → (l : LinePlace) → Contains new l ↔ IsLineOfSome f (Contains (take (i + 1) statements)) l
line_next f statements i d old new line lt grown of before =
    let s : Statement = get_or statements i d in
    subst (λ (xs : List LinePlace). (l : LinePlace) → Contains xs l ↔ IsLineOfSome f (Contains (take (i + 1) statements)) l) (sym grown)
    (line_more f statements i s lt (get_or_default statements i s d lt) old line of before)

-- the list in order has the lines
pub lines_listed : (P : LinePlace → Type 0) (found sorted : List LinePlace) → ((l : LinePlace) → Contains found l ↔ P l) → AllPairs LineBefore sorted → ((l : LinePlace) → Contains sorted l ↔ Contains found l) → IsOrderedListOf LineBefore sorted P
lines_listed P found sorted members order same = record {
  each = All-weaker (Contains sorted) P (λ l c. (members l).0 ((same l).0 c)) sorted (All-contains_itself sorted);
  order = order;
  whole = λ l h. (same l).1 ((members l).1 h);
}
