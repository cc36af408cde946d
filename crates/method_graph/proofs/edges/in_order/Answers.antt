use Rattle.std.proofs.lemmas.List.Filters.{dedup_is}
use Rattle.std.proofs.lemmas.List.Kept.{IsStrictlySortedBy-dedup, Contains-dedup, Contains-from_dedup}
use Rattle.std.proofs.lemmas.List.Sorted.{Contains-permutation, IsPermutation-sym}
use Rattle.method_graph.proofs.Orders.{endings_total, ending_ties, ending_equiv, same_ending, in_pairs}
use Rattle.method_graph.proofs.edges.in_order.Goals as goal

pub returns-clause-order : goal.returns-clause-order
returns-clause-order c =
    let is = dedup_is _ _ _ c.dedup.ensures.filtered in
    rw is (in_pairs _ (IsStrictlySortedBy-dedup endings_total ending_ties _ c.sort_unstable.ensures.sorted))

pub returns-clause-members : goal.returns-clause-members
returns-clause-members c =
    let is = dedup_is _ _ _ c.dedup.ensures.filtered in
    let moved = c.sort_unstable.ensures.permutation in
    λ s. (
      λ h. Contains-permutation _ _ s (IsPermutation-sym _ _ moved) (Contains-from_dedup _ _ s (rw is at h)),
      λ h. rw is (Contains-dedup ending_equiv same_ending _ s (Contains-permutation _ _ s moved h)),
    )
