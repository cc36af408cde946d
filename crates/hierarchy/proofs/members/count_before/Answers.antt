use Rattle.std.proofs.Common.{rules}
use Rattle.std.specs.Ordering.{is_lt}
use Rattle.std.proofs.lemmas.List.Sorted.{IsPartitionPoint-from_clause}
use Rattle.hierarchy.specs.Places.{texts_of, texts_at, texts_cmp}
use Rattle.hierarchy.proofs.Numbering.{before_partitioned}
use Rattle.hierarchy.proofs.members.count_before.Goals as goal

pub returns-clause-point : goal.returns-clause-point
returns-clause-point c =
    let x = texts_of c.args.name.now c.args.descriptor.now in
    IsPartitionPoint-from_clause (λ p. is_lt (texts_cmp (texts_at c.args.kind c.args.classes.now p) x)) c.args.places.now c.partition_point.result c.partition_point.ensures.partitioned
    (before_partitioned c.args.kind c.args.classes.now x c.args.places.now c.requires) (λ a r f' k. search rules)
