use Rattle.std.proofs.lemmas.List.Filters.{dedup_is}
use Rattle.std.proofs.lemmas.List.Kept.{IsStrictlySortedBy-dedup, Contains-dedup, Contains-from_dedup}
use Rattle.std.proofs.lemmas.List.Sorted.{Contains-permutation, IsPermutation-sym}
use Rattle.explainers.proofs.SiteOrder.{sites_total, site_ties, site_equiv, same_site, sites_in_pairs}
use Rattle.explainers.proofs.sites.in_order.Goals as goal

pub returns-clause-order : goal.returns-clause-order
returns-clause-order c =
    let is = dedup_is _ _ _ c.dedup.ensures.filtered in
    rw is (sites_in_pairs _ (IsStrictlySortedBy-dedup sites_total site_ties _ c.in-Ok.ensures.sorted))

pub returns-clause-members : goal.returns-clause-members
returns-clause-members c =
    let is = dedup_is _ _ _ c.dedup.ensures.filtered in
    let moved = c.in-Ok.ensures.permutation in
    λ s. (
      λ h. Contains-permutation _ _ s (IsPermutation-sym _ _ moved) (Contains-from_dedup _ _ s (rw is at h)),
      λ h. rw is (Contains-dedup site_equiv same_site _ s (Contains-permutation _ _ s moved h)),
    )
