use Rattle.mod_ref.proofs.Sorting.{sorted_members, sorted_rises}
use Rattle.input_tables.proofs.StepOrder.{step_cmp, step_eq, steps_exact, steps_rise}
use Rattle.input_tables.proofs.steps.in_order.Goals as goal

pub returns-clause-order : goal.returns-clause-order
returns-clause-order c = steps_rise _ (sorted_rises step_eq step_cmp steps_exact _ _ c.sort_unstable.ensures.sorted c.dedup.ensures.filtered)

pub returns-clause-members : goal.returns-clause-members
returns-clause-members c = sorted_members step_eq step_cmp steps_exact _ _ _ c.sort_unstable.ensures.permutation c.dedup.ensures.filtered
