use Rattle.std.proofs.Common.{rules, ltb, ℕ}
use Rattle.std.proofs.lemmas.List.Sorted.{IsPartitionPoint-from_clause, IsPartitionedBy-ltb}
use Rattle.input_tables.proofs.RowEdges.{by_handler}
use Rattle.input_tables.proofs.raises.count_before.Goals as goal

pub returns-clause-point : goal.returns-clause-point
returns-clause-point c =
    let n : ℕ × ℕ → ℕ = λ a. a.0 in
    IsPartitionPoint-from_clause (λ (x : ℕ × ℕ). ltb (n x) c.args.h) c.args.raises.now c.partition_point.result c.partition_point.ensures.partitioned (IsPartitionedBy-ltb n c.args.raises.now c.args.h (by_handler c.args.raises.now c.requires)) (λ a r f' k. search rules)
