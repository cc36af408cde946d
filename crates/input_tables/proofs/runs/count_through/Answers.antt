use Rattle.std.proofs.Common.{rules, leb, ℕ}
use Rattle.std.proofs.lemmas.List.Sorted.{IsPartitionPoint-from_clause, IsPartitionedBy-leb}
use Rattle.input_tables.specs.declared.effects.Effect.{Effect}
use Rattle.input_tables.proofs.EffectOrder.{by_method}
use Rattle.input_tables.proofs.runs.count_through.Goals as goal

pub returns-clause-point : goal.returns-clause-point
returns-clause-point c =
    let n : Effect → ℕ = λ a. a.at.method.0 in
    IsPartitionPoint-from_clause (λ (x : Effect). leb (n x) c.args.m) c.args.effects.now c.partition_point.result c.partition_point.ensures.partitioned (IsPartitionedBy-leb n c.args.effects.now c.args.m (by_method c.args.effects.now c.requires)) (λ a r f' k. search rules)
