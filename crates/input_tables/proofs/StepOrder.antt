-- The order of steps.
use Rattle.std.proofs.Common.{◌≡◌, ◌⊎◌, ◌<◌, ℕ, Bool, List, AllPairs, inl, inr, refl, arith}
use Rattle.std.specs.declared.cmp.Ordering.{Ordering}
use Rattle.std.specs.declared.cmp.Ordering.TheVariants.{Less, Equal}
use Rattle.std.specs.Ordering.{nat_cmp}
use Rattle.dep_form.specs.Orders.{RiseBy}
use Rattle.worklist.proofs.Orders.{then_less, then_equal, nat_less, nat_equal}
use Rattle.fact_form.specs.FactTables.{StepBefore}
use Rattle.mod_ref.proofs.Sorting.{IsExactOrder}
use Rattle.input_tables.specs.declared.steps.Step.{Step}
use Rattle.input_tables.specs.contracts.steps.StepOrd.TheImpl as of_step
use Rattle.input_tables.specs.contracts.steps.StepPartialEq.TheImpl as tested_step
use Rattle.input_tables.specs.Control.{pair_of}

abbrev pub step_cmp : Step → Step → Ordering
step_cmp = (of_step.ghosts).cmp

abbrev pub step_eq : Step → Step → Bool
step_eq = (tested_step.ghosts).eq

step_is : (a b : Step) → a.from ≡ b.from → a.to ≡ b.to → a ≡ b
step_is a b p q = rw (← p, ← q) refl

step_equal : (a b : Step) → step_cmp a b ≡ Equal → a ≡ b
step_equal a b h = let same = then_equal a.from b.from (nat_cmp a.to b.to) h in step_is a b same.0 (nat_equal a.to b.to same.1)

pub steps_exact : IsExactOrder step_eq step_cmp
steps_exact = record { total = of_step.Laws.total-law; ties = of_step.Laws.matches_eq-law; exact = step_equal }

pub step_less : (a b : Step) → step_cmp a b ≡ Less → StepBefore (pair_of a) (pair_of b)
step_less a b h = elim (then_less a.from b.from (nat_cmp a.to b.to) h) [
  | inl lt ↦ inl lt
  | inr same ↦ inr (same.0, nat_less a.to b.to same.1)
]

pub steps_rise : (xs : List Step) → RiseBy step_cmp (λ x. x) xs → AllPairs (λ a b. StepBefore (pair_of a) (pair_of b)) xs
steps_rise xs h = λ i j d lt within. step_less _ _ (h i j d lt within)
