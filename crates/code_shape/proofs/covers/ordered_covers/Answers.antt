use Rattle.std.proofs.lemmas.List.Filters.{dedup_is}
use Rattle.std.proofs.lemmas.List.Kept.{IsStrictlySortedBy-dedup, Contains-dedup, Contains-from_dedup}
use Rattle.std.proofs.lemmas.List.Sorted.{Contains-permutation, IsPermutation-sym}
use Rattle.code_shape.proofs.Covering.{covers_total, cover_ties, cover_equiv, same_cover, covers_in_pairs}
use Rattle.code_shape.proofs.covers.ordered_covers.Goals as goal

pub returns-clause-order : goal.returns-clause-order
returns-clause-order c =
    let is = dedup_is _ _ _ c.dedup.ensures.filtered in
    rw is (covers_in_pairs _ (IsStrictlySortedBy-dedup covers_total cover_ties _ c.in-Ok.ensures.sorted))

pub returns-clause-members : goal.returns-clause-members
returns-clause-members c =
    let is = dedup_is _ _ _ c.dedup.ensures.filtered in
    let moved = c.in-Ok.ensures.permutation in
    λ s. (
      λ h. Contains-permutation _ _ s (IsPermutation-sym _ _ moved) (Contains-from_dedup _ _ s (rw is at h)),
      λ h. rw is (Contains-dedup cover_equiv same_cover _ s (Contains-permutation _ _ s moved h)),
    )
