use Rattle.std.proofs.lemmas.List.Filters.{dedup_is}
use Rattle.std.proofs.lemmas.List.Kept.{IsStrictlySortedBy-dedup, Contains-dedup, Contains-from_dedup}
use Rattle.std.proofs.lemmas.List.Sorted.{Contains-permutation, IsPermutation-sym}
use Rattle.reaching_defs.proofs.Order.{facts_total, fact_ties, fact_equiv, same_fact, in_pairs}
use Rattle.reaching_defs.proofs.table.in_order.Goals as goal

pub returns-clause-order : goal.returns-clause-order
returns-clause-order c =
    let is = dedup_is _ _ _ c.dedup.ensures.filtered in
    rw is (in_pairs _ (IsStrictlySortedBy-dedup facts_total fact_ties _ c.in-Ok.ensures.sorted))

pub returns-clause-members : goal.returns-clause-members
returns-clause-members c =
    let is = dedup_is _ _ _ c.dedup.ensures.filtered in
    let moved = c.in-Ok.ensures.permutation in
    λ s. (
      λ h. Contains-permutation _ _ s (IsPermutation-sym _ _ moved) (Contains-from_dedup _ _ s (rw is at h)),
      λ h. rw is (Contains-dedup fact_equiv same_fact _ s (Contains-permutation _ _ s moved h)),
    )
