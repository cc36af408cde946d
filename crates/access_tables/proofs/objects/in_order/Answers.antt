use Rattle.mod_ref.proofs.Sorting.{sorted_members, sorted_rises}
use Rattle.access_tables.proofs.NodeOrder.{in_order, node_cmp, nodes_exact}
use Rattle.access_tables.proofs.objects.in_order.Goals as goal

pub returns-clause-order : goal.returns-clause-order
returns-clause-order c = in_order _ (sorted_rises _ node_cmp nodes_exact _ _ c.sort_unstable.ensures.sorted c.dedup.ensures.filtered)

pub returns-clause-members : goal.returns-clause-members
returns-clause-members c = sorted_members _ node_cmp nodes_exact _ _ _ c.sort_unstable.ensures.permutation c.dedup.ensures.filtered
