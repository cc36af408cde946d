use Rattle.mod_ref.proofs.Sorting.{sorted_members, sorted_rises}
use Rattle.input_tables.proofs.UseOrder.{use_cmp, use_eq, uses_exact, uses_rise}
use Rattle.input_tables.proofs.uses.in_order.Goals as goal

pub returns-clause-order : goal.returns-clause-order
returns-clause-order c = uses_rise _ (sorted_rises use_eq use_cmp uses_exact _ _ c.sort_unstable.ensures.sorted c.dedup.ensures.filtered)

pub returns-clause-members : goal.returns-clause-members
returns-clause-members c = sorted_members use_eq use_cmp uses_exact _ _ _ c.sort_unstable.ensures.permutation c.dedup.ensures.filtered
