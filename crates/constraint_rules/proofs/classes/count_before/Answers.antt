use Rattle.std.proofs.Common.{rules, ltb}
use Rattle.std.proofs.lemmas.List.Sorted.{IsPartitionPoint-from_clause, IsPartitionedBy-ltb}
use Rattle.slicer_ids.specs.declared.ids.ClassId.{ClassId}
use Rattle.slicer_ids.specs.declared.ids.MethodId.{MethodId}
use Rattle.constraint_rules.proofs.Runs.{keys_rise}
use Rattle.constraint_rules.proofs.classes.count_before.Goals as goal

pub returns-clause-point : goal.returns-clause-point
returns-clause-point c =
    IsPartitionPoint-from_clause (λ (x : ClassId × MethodId). ltb x.0.0 c.args.class.0) c.args.initializers.now c.partition_point.result c.partition_point.ensures.partitioned
    (IsPartitionedBy-ltb (λ (x : ClassId × MethodId). x.0.0) c.args.initializers.now c.args.class.0 (keys_rise (λ (x : ClassId × MethodId). x.0.0) c.args.initializers.now c.requires)) (λ a r f' k. search rules)
