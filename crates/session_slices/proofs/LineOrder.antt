-- The order of lines, and the one line of a statement.
use Rattle.std.proofs.Common.{◌≡◌, ◌⊎◌, ◌<◌, ℕ, List, Option, Some, None, AllPairs, get_or, length, inl, inr, refl, sym, ap, subst, ◌∙◌, arith}
use Rattle.std.specs.Prelude.{slice_get}
use Rattle.std.specs.declared.cmp.Ordering.{Ordering}
use Rattle.std.specs.declared.cmp.Ordering.TheVariants.{Less, Equal, Greater}
use Rattle.std.specs.Ordering.{nat_cmp, ordering_then, eq_by_cmp}
use Rattle.std.specs.Option.{option_cmp}
use Rattle.std.specs.Cmp.{IsTotalOrder}
use Rattle.std.specs.Cmp.Lexicographic.{options_total}
use Rattle.std.proofs.lemmas.Bool.{cases_lt}
use Rattle.std.proofs.lemmas.Cmp.{nat_cmp_total, on_total, then_total, tied_itself}
use Rattle.std.proofs.lemmas.Option.{same_Some, slice_get_within, get_or_from_slice_get}
use Rattle.worklist.proofs.Orders.{nat_less}
use Rattle.slicer_ids.specs.declared.ids.MethodId.{MethodId}
use Rattle.slicer_ids.specs.declared.ids.Statement.{Statement}
use Rattle.dep_form.specs.declared.facts.Facts.{Facts}
use Rattle.dep_form.specs.declared.texts.MethodText.{MethodText}
use Rattle.dep_form.specs.LookUps.{HasLine}
use Rattle.dep_form.specs.Orders.{RiseBy}
use Rattle.dep_form.proofs.Searching.{one_number}
use Rattle.report.specs.declared.reply.LinePlace.{LinePlace}
use Rattle.session_form.specs.States.{LineBefore, IsLesserLine}
use Rattle.session_state.proofs.Sorting.{IsExactOrder}
use Rattle.session_state.proofs.StatementOrder.{then_less}
use Rattle.session_slices.specs.SliceLines.{place_cmp}

pub lines_total : IsTotalOrder place_cmp
lines_total = then_total (on_total (λ (l : LinePlace). l.method.0) nat_cmp_total) (on_total (λ (l : LinePlace). l.line) (options_total nat_cmp_total))

both_equal : (o p : Ordering) → ordering_then o p ≡ Equal → (o ≡ Equal) × (p ≡ Equal)
both_equal Less p e = absurd cc
both_equal Equal p e = (refl, e)
both_equal Greater p e = absurd cc

one_option : (a b : Option ℕ) → option_cmp nat_cmp a b ≡ Equal → a ≡ b
one_option None None e = refl
one_option None (Some m) e = absurd cc
one_option (Some l) None e = absurd cc
one_option (Some l) (Some m) e = ap (λ n. Some n) (one_number l m e)

pub one_place : (a b : LinePlace) → a.method ≡ b.method → a.line ≡ b.line → a ≡ b
one_place a b p q = ap (λ (m : MethodId). record { method = m; line = a.line }) p ∙ ap (λ (l : Option ℕ). record { method = b.method; line = l }) q

exact : (a b : LinePlace) → place_cmp a b ≡ Equal → a ≡ b
exact a b e =
    let h = both_equal _ _ e in
    one_place a b (ap (λ n. record { 0 = n }) (one_number _ _ h.0)) (one_option a.line b.line h.1)

pub lines_exact : IsExactOrder (eq_by_cmp place_cmp) place_cmp
lines_exact = record { total = lines_total; ties = λ x y. refl; exact = exact }

lesser : (a b : Option ℕ) → option_cmp nat_cmp a b ≡ Less → IsLesserLine a b
lesser None None e = absurd cc
lesser None (Some m) e = tt
lesser (Some l) None e = absurd cc
lesser (Some l) (Some m) e = nat_less l m e

before : (a b : LinePlace) → place_cmp a b ≡ Less → LineBefore a b
before a b e = elim (then_less _ _ e) [
  | inl h ↦ inl (nat_less a.method.0 b.method.0 h)
  | inr h ↦ inr (ap (λ n. record { 0 = n }) (one_number a.method.0 b.method.0 h.0), lesser a.line b.line h.1)
]

pub lines_in_pairs : (xs : List LinePlace) → AllPairs (λ a b. place_cmp a b ≡ Less) xs → AllPairs LineBefore xs
lines_in_pairs xs h = λ i j d lt within. before _ _ (h i j d lt within)

-- ---- a statement has one line
apart : (xs : List (ℕ × Option ℕ)) (j k : ℕ) (x y : ℕ × Option ℕ) → RiseBy nat_cmp (λ (z : ℕ × Option ℕ). z.0) xs → slice_get xs j ≡ Some x → slice_get xs k ≡ Some y → x.0 ≡ y.0 → j < k → ⊥
apart xs j k x y rise at by same lt =
    let less : nat_cmp (get_or xs j y).0 (get_or xs k y).0 ≡ Less = rise j k y lt (slice_get_within xs k y by) in
    let first : nat_cmp x.0 (get_or xs k y).0 ≡ Less = subst (λ (z : ℕ × Option ℕ). nat_cmp z.0 (get_or xs k y).0 ≡ Less) (get_or_from_slice_get xs j x y at) less in
    let second : nat_cmp x.0 y.0 ≡ Less = subst (λ (z : ℕ × Option ℕ). nat_cmp x.0 z.0 ≡ Less) (get_or_from_slice_get xs k y y by) first in
    let tied : nat_cmp y.0 y.0 ≡ Equal = tied_itself nat_cmp_total y.0 in
    let clash : Less ≡ Equal = sym second ∙ ap (λ n. nat_cmp n y.0) same ∙ tied in
    absurd (cc clash)

same_item : (xs : List (ℕ × Option ℕ)) (j k : ℕ) (x y : ℕ × Option ℕ) → RiseBy nat_cmp (λ (z : ℕ × Option ℕ). z.0) xs → slice_get xs j ≡ Some x → slice_get xs k ≡ Some y → x.0 ≡ y.0 → x ≡ y
same_item xs j k x y rise at by same =
    let place : j ≡ k = elim (cases_lt j k) [
      | inl lt ↦ absurd (apart xs j k x y rise at by same lt)
      | inr ge ↦ elim (cases_lt k j) [ inl lt ↦ absurd (apart xs k j y x rise by at (sym same) lt) | inr le ↦ omega (arith, ge, le) ]
    ] in
    same_Some x y (sym (subst (λ n. slice_get xs n ≡ Some x) place at) ∙ by)

pub one_line : (f : Facts) (s : Statement) (a b : Option ℕ) → HasLine f s a → HasLine f s b → a ≡ b
one_line f s a b (t, at, (k, x, here, pc, is)) (u, by, (j, y, there, pc', is')) =
    let text : t ≡ u = same_Some t u (sym at ∙ by) in
    let here' : slice_get u.lines k ≡ Some x = subst (λ (w : MethodText). slice_get w.lines k ≡ Some x) text here in
    let item : x ≡ y = same_item u.lines k j x y u.lines_rise here' there (pc ∙ sym pc') in
    sym is ∙ ap (λ (z : ℕ × Option ℕ). z.1) item ∙ is'
