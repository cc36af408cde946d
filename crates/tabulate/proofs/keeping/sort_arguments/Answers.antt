use Rattle.std.proofs.Common.{rules}
use Rattle.std.proofs.lemmas.List.Sorted.{Contains-permutation, IsPermutation-sym, IsNonDecreasingBy-from_sort_by_key}
use Rattle.tabulate.specs.declared.method.Argument.{Argument}
use Rattle.tabulate.proofs.keeping.sort_arguments.Goals as goal

pub returns-clause-same : goal.returns-clause-same
returns-clause-same c = λ a.
    let e = c.sort_unstable_by_key.ensures.permutation in
    (Contains-permutation c.sort_unstable_by_key.new.self.items c.args.arguments.now.items a (IsPermutation-sym c.args.arguments.now.items c.sort_unstable_by_key.new.self.items e), Contains-permutation c.args.arguments.now.items c.sort_unstable_by_key.new.self.items a e)

pub returns-clause-order : goal.returns-clause-order
returns-clause-order c = IsNonDecreasingBy-from_sort_by_key (λ (x : Argument). x.call.0) c.sort_unstable_by_key.new.self.items c.sort_unstable_by_key.ensures.sorted (λ a r f' k. search rules)
