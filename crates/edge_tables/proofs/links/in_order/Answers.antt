use Rattle.mod_ref.proofs.Sorting.{sorted_members, sorted_rises}
use Rattle.edge_tables.specs.Links.{link_cmp}
use Rattle.edge_tables.proofs.LinkOrder.{link_eq, links_exact}
use Rattle.edge_tables.proofs.links.in_order.Goals as goal

pub returns-clause-order : goal.returns-clause-order
returns-clause-order c = sorted_rises link_eq link_cmp links_exact _ _ c.sort_unstable.ensures.sorted c.dedup.ensures.filtered

pub returns-clause-members : goal.returns-clause-members
returns-clause-members c = sorted_members link_eq link_cmp links_exact _ _ _ c.sort_unstable.ensures.permutation c.dedup.ensures.filtered
