use Rattle.mod_ref.specs.Locations.{location_cmp, location_eq}
use Rattle.mod_ref.proofs.Sorting.{sorted_members, sorted_rises}
use Rattle.mod_ref.proofs.Orders.{locations_exact}
use Rattle.mod_ref.proofs.locations.in_order.Goals as goal

pub returns-clause-order : goal.returns-clause-order
returns-clause-order c = sorted_rises location_eq location_cmp locations_exact _ _ c.sort_unstable.ensures.sorted c.dedup.ensures.filtered

pub returns-clause-members : goal.returns-clause-members
returns-clause-members c = sorted_members location_eq location_cmp locations_exact _ _ _ c.sort_unstable.ensures.permutation c.dedup.ensures.filtered
