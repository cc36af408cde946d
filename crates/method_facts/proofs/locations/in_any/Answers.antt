use Rattle.worklists.specs.Growth.{FromOne}
use Rattle.method_facts.specs.Numbers.{HasNumber}
use Rattle.mod_ref.proofs.Sorting.{sorted_members, sorted_rises}
use Rattle.method_facts.proofs.LocNumbers.{loc_cmp, loc_eq, locs_exact, listed}
use Rattle.method_facts.proofs.locations.in_any.Goals as goal

pub returns : goal.returns
returns c =
    listed _ _ (FromOne (HasNumber c.args.lists.now) c.args.methods.now)
    (sorted_rises loc_eq loc_cmp locs_exact _ _ c.sort_unstable.ensures.sorted c.dedup.ensures.filtered)
    (sorted_members loc_eq loc_cmp locs_exact _ _ _ c.sort_unstable.ensures.permutation c.dedup.ensures.filtered)
    c.in_ok-all.ensures
