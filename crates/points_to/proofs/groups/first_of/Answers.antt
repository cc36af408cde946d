use Rattle.std.proofs.Common.{arith, rules}
use Rattle.points_to.specs.declared.groups.Select.{Select}
use Rattle.std.proofs.Common.{ltb}
use Rattle.std.proofs.lemmas.Bool.{ltb-true, ltb-false}
use Rattle.std.proofs.lemmas.List.Sorted.{IsPartitionPoint-from_clause, IsPartitionedBy-ltb}
use Rattle.points_to.proofs.groups.first_of.Goals as goal

pub returns-clause-before : goal.returns-clause-before
returns-clause-before c = λ k d lt. ltb-true _ _ ((IsPartitionPoint-from_clause (λ (x : Select). ltb x.signature c.args.signature) c.args.group.now c.partition_point.result c.partition_point.ensures.partitioned (IsPartitionedBy-ltb (λ (x : Select). x.signature) c.args.group.now c.args.signature c.requires) (λ a r f k'. search rules)).0 k d (omega arith) lt)

pub returns-clause-after : goal.returns-clause-after
returns-clause-after c = λ k d le within. ltb-false _ _ ((IsPartitionPoint-from_clause (λ (x : Select). ltb x.signature c.args.signature) c.args.group.now c.partition_point.result c.partition_point.ensures.partitioned (IsPartitionedBy-ltb (λ (x : Select). x.signature) c.args.group.now c.args.signature c.requires) (λ a r f k'. search rules)).1 k d le within)
