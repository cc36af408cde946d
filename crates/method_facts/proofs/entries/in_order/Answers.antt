use Rattle.mod_ref.proofs.Sorting.{sorted_members, sorted_rises}
use Rattle.method_facts.proofs.EntryMethods.{in_order, method_cmp, methods_exact}
use Rattle.method_facts.proofs.entries.in_order.Goals as goal

pub returns-clause-order : goal.returns-clause-order
returns-clause-order c = in_order _ (sorted_rises _ method_cmp methods_exact _ _ c.sort_unstable.ensures.sorted c.dedup.ensures.filtered)

pub returns-clause-members : goal.returns-clause-members
returns-clause-members c = sorted_members _ method_cmp methods_exact _ _ _ c.sort_unstable.ensures.permutation c.dedup.ensures.filtered
