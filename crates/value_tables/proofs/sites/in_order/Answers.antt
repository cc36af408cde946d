use Rattle.mod_ref.proofs.Sorting.{sorted_members, sorted_rises}
use Rattle.value_tables.proofs.SiteOrder.{in_order, site_cmp, sites_exact}
use Rattle.value_tables.proofs.sites.in_order.Goals as goal

pub returns-clause-order : goal.returns-clause-order
returns-clause-order c = in_order _ (sorted_rises _ site_cmp sites_exact _ _ c.sort_unstable.ensures.sorted c.dedup.ensures.filtered)

pub returns-clause-members : goal.returns-clause-members
returns-clause-members c = sorted_members _ site_cmp sites_exact _ _ _ c.sort_unstable.ensures.permutation c.dedup.ensures.filtered
