use Rattle.std.proofs.Common.{rules}
use Rattle.points_to.specs.declared.groups.Select.{Select}
use Rattle.std.proofs.lemmas.List.Sorted.{IsNonDecreasingBy-from_sort_by_key, Contains-permutation, IsPermutation-sym}
use Rattle.points_to.proofs.groups.sort_group.Goals as goal

pub returns-clause-same : goal.returns-clause-same
returns-clause-same c = λ x. let moved = c.sort_unstable_by_key.ensures.permutation in (λ h. Contains-permutation _ _ x (IsPermutation-sym _ _ moved) h, λ h. Contains-permutation _ _ x moved h)

pub returns-clause-sorted : goal.returns-clause-sorted
returns-clause-sorted c = IsNonDecreasingBy-from_sort_by_key (λ (x : Select). x.signature) c.sort_unstable_by_key.new.self.items c.sort_unstable_by_key.ensures.sorted (λ a r f k'. search rules)
