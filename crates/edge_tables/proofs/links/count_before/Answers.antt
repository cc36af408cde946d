use Rattle.std.proofs.Common.{rules, ltb, ℕ}
use Rattle.std.proofs.lemmas.List.Sorted.{IsPartitionPoint-from_clause, IsPartitionedBy-ltb}
use Rattle.edge_tables.specs.declared.links.Link.{Link}
use Rattle.edge_tables.proofs.LinkOrder.{by_key}
use Rattle.edge_tables.proofs.links.count_before.Goals as goal

pub returns-clause-point : goal.returns-clause-point
returns-clause-point c =
    let n : Link → ℕ = λ a. a.key.0 in
    IsPartitionPoint-from_clause (λ (x : Link). ltb (n x) c.args.m) c.args.links.now c.partition_point.result c.partition_point.ensures.partitioned (IsPartitionedBy-ltb n c.args.links.now c.args.m (by_key c.args.links.now c.requires)) (λ a r f' k. search rules)
