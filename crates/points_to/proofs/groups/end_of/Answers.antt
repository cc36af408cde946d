use Rattle.std.proofs.Common.{arith, rules}
use Rattle.points_to.specs.declared.groups.Select.{Select}
use Rattle.std.proofs.Common.{leb}
use Rattle.std.proofs.lemmas.Bool.{leb-true, leb-false}
use Rattle.std.proofs.lemmas.List.Sorted.{IsPartitionPoint-from_clause, IsPartitionedBy-leb}
use Rattle.points_to.proofs.groups.end_of.Goals as goal

pub returns-clause-before : goal.returns-clause-before
returns-clause-before c = λ k d lt. leb-true _ _ ((IsPartitionPoint-from_clause (λ (x : Select). leb x.signature c.args.signature) c.args.group.now c.partition_point.result c.partition_point.ensures.partitioned (IsPartitionedBy-leb (λ (x : Select). x.signature) c.args.group.now c.args.signature c.requires) (λ a r f k'. search rules)).0 k d (omega arith) lt)

pub returns-clause-after : goal.returns-clause-after
returns-clause-after c = λ k d le within. leb-false _ _ ((IsPartitionPoint-from_clause (λ (x : Select). leb x.signature c.args.signature) c.args.group.now c.partition_point.result c.partition_point.ensures.partitioned (IsPartitionedBy-leb (λ (x : Select). x.signature) c.args.group.now c.args.signature c.requires) (λ a r f k'. search rules)).1 k d le within)
