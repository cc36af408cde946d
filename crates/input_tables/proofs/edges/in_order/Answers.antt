use Rattle.mod_ref.proofs.Sorting.{sorted_members, sorted_rises}
use Rattle.input_tables.proofs.EdgeOrder.{edge_cmp, edge_eq, edges_exact, edges_rise}
use Rattle.input_tables.proofs.edges.in_order.Goals as goal

pub returns-clause-order : goal.returns-clause-order
returns-clause-order c = edges_rise _ (sorted_rises edge_eq edge_cmp edges_exact _ _ c.sort_unstable.ensures.sorted c.dedup.ensures.filtered)

pub returns-clause-members : goal.returns-clause-members
returns-clause-members c = sorted_members edge_eq edge_cmp edges_exact _ _ _ c.sort_unstable.ensures.permutation c.dedup.ensures.filtered
