use Rattle.std.proofs.Common.{rules}
use Rattle.std.proofs.lemmas.List.Sorted.{IsNonDecreasingBy-from_sort_by_key, Contains-permutation, IsPermutation-sym}
use Rattle.method_graph.specs.declared.locations.Access.{Access}
use Rattle.method_graph.proofs.locations.sorted.Goals as goal

pub returns-clause-order : goal.returns-clause-order
returns-clause-order c = IsNonDecreasingBy-from_sort_by_key (λ (a : Access). a.location.0) _ c.sort_unstable_by_key.ensures.sorted (λ a r f' k. search rules)

pub returns-clause-same : goal.returns-clause-same
returns-clause-same c = λ x.
    let moved = c.sort_unstable_by_key.ensures.permutation in
    (λ h. Contains-permutation _ _ x (IsPermutation-sym _ _ moved) h, λ h. Contains-permutation _ _ x moved h)
