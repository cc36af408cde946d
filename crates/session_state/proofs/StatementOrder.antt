-- The order of statements, and how comparisons tell it.
use Rattle.std.proofs.Common.{◌≡◌, ◌⊎◌, Bool, List, AllPairs, inl, inr, refl, sym, ap, ◌∙◌}
use Rattle.std.specs.declared.cmp.Ordering.{Ordering}
use Rattle.std.specs.declared.cmp.Ordering.TheVariants.{Less, Equal, Greater}
use Rattle.std.specs.Ordering.{nat_cmp, ordering_then, ordering_reverse}
use Rattle.std.specs.Cmp.{IsTotalOrder, nat_cmp_is}
use Rattle.worklist.proofs.Orders.{nat_less, nat_equal}
use Rattle.slicer_ids.specs.declared.ids.MethodId.{MethodId}
use Rattle.slicer_ids.specs.declared.ids.Statement.{Statement}
use Rattle.slicer_ids.specs.contracts.ids.StatementOrd.TheImpl as of_statement
use Rattle.slicer_ids.specs.contracts.ids.StatementPartialEq.TheImpl as tested_statement
use Rattle.slicer_ids.specs.Order.{StatementBefore}
use Rattle.dep_form.specs.Orders.{RiseBy, statement_cmp}
use Rattle.dep_form.proofs.Searching.{statement_total, one_statement}
use Rattle.session_state.proofs.Sorting.{IsExactOrder}

pub then_less : (o p : Ordering) → ordering_then o p ≡ Less → (o ≡ Less) ⊎ ((o ≡ Equal) × (p ≡ Less))
then_less Less p e = inl refl
then_less Equal p e = inr (refl, e)
then_less Greater p e = absurd cc

pub less_before : (a b : Statement) → statement_cmp a b ≡ Less → StatementBefore a b
less_before a b e = elim (then_less _ _ e) [
  | inl h ↦ inl (nat_less a.method.0 b.method.0 h)
  | inr h ↦ inr (ap (λ n. record { 0 = n }) (nat_equal a.method.0 b.method.0 h.0), nat_less a.pc b.pc h.1)
]

pub before_less : (a b : Statement) → StatementBefore a b → statement_cmp a b ≡ Less
before_less a b (inl h) = ap (λ o. ordering_then o (nat_cmp a.pc b.pc)) (sym (nat_cmp_is a.method.0 b.method.0 Less h))
before_less a b (inr h) =
    ap (λ (m : MethodId). ordering_then (nat_cmp m.0 b.method.0) (nat_cmp a.pc b.pc)) h.0
    ∙ ap (λ o. ordering_then o (nat_cmp a.pc b.pc)) (sym (nat_cmp_is b.method.0 b.method.0 Equal refl))
    ∙ sym (nat_cmp_is a.pc b.pc Less h.1)

pub greater_after : (a b : Statement) → statement_cmp a b ≡ Greater → StatementBefore b a
greater_after a b e = less_before b a (statement_total.antisymm b a ∙ ap ordering_reverse e)

-- statements in order rise
pub rise : (xs : List Statement) → AllPairs StatementBefore xs → RiseBy statement_cmp (λ s. s) xs
rise xs order = λ i j d lt within. before_less _ _ (order i j d lt within)

pub fall : (xs : List Statement) → RiseBy statement_cmp (λ s. s) xs → AllPairs StatementBefore xs
fall xs h = λ i j d lt within. less_before _ _ (h i j d lt within)

abbrev pub statement_eq : Statement → Statement → Bool
statement_eq = (tested_statement.ghosts).eq

pub statements_exact : IsExactOrder statement_eq statement_cmp
statements_exact = record { total = statement_total; ties = of_statement.Laws.matches_eq-law; exact = one_statement }
