use Rattle.std.proofs.Common.{◌≡◌, ◌∙◌, ◌<◌, ℕ, zero, suc, List, [], ◌∷◌, Option, Some, None, refl, sym, subst, arith}
use Rattle.std.specs.Ordering.{nat_cmp}
use Rattle.dep_form.specs.Orders.{RiseBy}
use Rattle.session_tests.proofs.facts.line_table.Goals as goal

rising : RiseBy nat_cmp (λ (x : ℕ × Option ℕ). x.0) ((0, Some 7) ∷ (4, Some 7) ∷ (300, None) ∷ [])
rising zero zero d lt within = absurd (omega (arith, lt))
rising zero (suc zero) d lt within = refl
rising zero (suc (suc zero)) d lt within = refl
rising (suc zero) zero d lt within = absurd (omega (arith, lt))
rising (suc zero) (suc zero) d lt within = absurd (omega (arith, lt))
rising (suc zero) (suc (suc zero)) d lt within = refl
rising (suc (suc i)) zero d lt within = absurd (omega (arith, lt))
rising (suc (suc i)) (suc zero) d lt within = absurd (omega (arith, lt))
rising (suc (suc i)) (suc (suc zero)) d lt within = absurd (omega (arith, lt))
rising i (suc (suc (suc j))) d lt within = absurd (omega (arith, within))

pub returns : goal.returns
returns c = subst (RiseBy nat_cmp (λ (x : ℕ × Option ℕ). x.0)) (sym (c.from_vec.ensures ∙ c.in_ok-lines.ensures.items)) rising
