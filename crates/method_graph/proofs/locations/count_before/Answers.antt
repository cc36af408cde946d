use Rattle.std.proofs.Common.{rules, ltb, ℕ}
use Rattle.std.proofs.lemmas.List.Sorted.{IsPartitionPoint-from_clause, IsPartitionedBy-ltb}
use Rattle.method_graph.specs.declared.locations.Access.{Access}
use Rattle.method_graph.proofs.locations.count_before.Goals as goal

pub returns-clause-point : goal.returns-clause-point
returns-clause-point c =
    let n : Access → ℕ = λ a. a.location.0 in
    IsPartitionPoint-from_clause (λ (x : Access). ltb (n x) c.args.location.0) c.args.accesses.now c.partition_point.result c.partition_point.ensures.partitioned (IsPartitionedBy-ltb n c.args.accesses.now c.args.location.0 c.requires) (λ a r f' k. search rules)
