use Rattle.std.proofs.Common.{rules, ltb}
use Rattle.std.proofs.lemmas.List.Sorted.{IsPartitionPoint-from_clause, IsPartitionedBy-ltb}
use Rattle.tabulate.specs.declared.method.Back.{Back}
use Rattle.tabulate.proofs.by_call.returns_before.Goals as goal

pub returns-clause-point : goal.returns-clause-point
returns-clause-point c = IsPartitionPoint-from_clause (λ (x : Back). ltb x.call.0 c.args.call.0) c.args.returns.now c.partition_point.result c.partition_point.ensures.partitioned (IsPartitionedBy-ltb (λ (x : Back). x.call.0) c.args.returns.now c.args.call.0 c.requires) (λ a r f' k. search rules)
