use Rattle.std.proofs.Common.{ltb, rules, arith}
use Rattle.std.specs.List.Sorted.{IsPartitionPoint}
use Rattle.std.proofs.lemmas.Bool.{ltb-true, ltb-false}
use Rattle.std.proofs.lemmas.List.Sorted.{IsPartitionPoint-from_clause, IsPartitionedBy-ltb}
use Rattle.points_to.specs.declared.places.Slot.{Slot}
use Rattle.points_to.proofs.Slots.{non_decreasing}
use Rattle.points_to.proofs.places.place_for.Goals as goal

pub returns-clause-before : goal.returns-clause-before
returns-clause-before c = λ k d lt. ltb-true _ _ ((IsPartitionPoint-from_clause (λ (s : Slot). ltb s.field.0 c.args.field.0) c.args.slots.now c.partition_point.result c.partition_point.ensures.partitioned (IsPartitionedBy-ltb (λ (s : Slot). s.field.0) c.args.slots.now c.args.field.0 (non_decreasing c.args.slots.now c.requires)) (λ a r f k'. search rules)).0 k d (omega arith) lt)

pub returns-clause-after : goal.returns-clause-after
returns-clause-after c = λ k d le within. ltb-false _ _ ((IsPartitionPoint-from_clause (λ (s : Slot). ltb s.field.0 c.args.field.0) c.args.slots.now c.partition_point.result c.partition_point.ensures.partitioned (IsPartitionedBy-ltb (λ (s : Slot). s.field.0) c.args.slots.now c.args.field.0 (non_decreasing c.args.slots.now c.requires)) (λ a r f k'. search rules)).1 k d le within)
