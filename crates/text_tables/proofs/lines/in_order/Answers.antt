use Rattle.mod_ref.proofs.Sorting.{sorted_members, sorted_rises}
use Rattle.text_tables.specs.LineGroups.{place_cmp}
use Rattle.text_tables.proofs.PlaceOrder.{place_eq, places_exact}
use Rattle.text_tables.proofs.lines.in_order.Goals as goal

pub returns-clause-order : goal.returns-clause-order
returns-clause-order c = sorted_rises place_eq place_cmp places_exact _ _ c.sort_unstable.ensures.sorted c.dedup.ensures.filtered

pub returns-clause-members : goal.returns-clause-members
returns-clause-members c = sorted_members place_eq place_cmp places_exact _ _ _ c.sort_unstable.ensures.permutation c.dedup.ensures.filtered
