use Rattle.dep_form.specs.Orders.{statement_cmp}
use Rattle.mod_ref.proofs.Sorting.{sorted_members, sorted_rises}
use Rattle.mod_ref.proofs.Orders.{statements_exact}
use Rattle.mod_ref.proofs.fresh.in_order.Goals as goal

pub returns-clause-order : goal.returns-clause-order
returns-clause-order c = sorted_rises _ statement_cmp statements_exact _ _ c.sort_unstable.ensures.sorted c.dedup.ensures.filtered

pub returns-clause-members : goal.returns-clause-members
returns-clause-members c = sorted_members _ statement_cmp statements_exact _ _ _ c.sort_unstable.ensures.permutation c.dedup.ensures.filtered
