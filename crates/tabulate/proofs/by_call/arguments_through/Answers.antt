use Rattle.std.proofs.Common.{rules, leb}
use Rattle.std.proofs.lemmas.List.Sorted.{IsPartitionPoint-from_clause, IsPartitionedBy-leb}
use Rattle.tabulate.specs.declared.method.Argument.{Argument}
use Rattle.tabulate.proofs.by_call.arguments_through.Goals as goal

pub returns-clause-point : goal.returns-clause-point
returns-clause-point c = IsPartitionPoint-from_clause (λ (x : Argument). leb x.call.0 c.args.call.0) c.args.arguments.now c.partition_point.result c.partition_point.ensures.partitioned (IsPartitionedBy-leb (λ (x : Argument). x.call.0) c.args.arguments.now c.args.call.0 c.requires) (λ a r f' k. search rules)
