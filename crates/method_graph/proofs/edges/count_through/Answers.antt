use Rattle.std.proofs.Common.{rules, leb, ℕ}
use Rattle.std.proofs.lemmas.List.Sorted.{IsPartitionPoint-from_clause, IsPartitionedBy-leb}
use Rattle.method_graph.specs.declared.edges.Ending.{Ending}
use Rattle.method_graph.proofs.Orders.{by_ends}
use Rattle.method_graph.proofs.edges.count_through.Goals as goal

pub returns-clause-point : goal.returns-clause-point
returns-clause-point c =
    let n : Ending → ℕ = λ a. a.to.0 in
    IsPartitionPoint-from_clause (λ (x : Ending). leb (n x) c.args.node) c.args.edges.now c.partition_point.result c.partition_point.ensures.partitioned (IsPartitionedBy-leb n c.args.edges.now c.args.node (by_ends c.args.edges.now c.requires)) (λ a r f' k. search rules)
