use Rattle.mod_ref.proofs.Sorting.{sorted_members}
use Rattle.method_facts.proofs.LocNumbers.{loc_cmp, loc_eq, locs_exact}
use Rattle.method_facts.proofs.locations.tidy.Goals as goal

pub returns : goal.returns
returns c = sorted_members loc_eq loc_cmp locs_exact _ _ _ c.sort_unstable.ensures.permutation c.dedup.ensures.filtered
