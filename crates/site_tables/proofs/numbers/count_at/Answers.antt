use Rattle.std.proofs.Common.{rules}
use Rattle.std.proofs.lemmas.List.Sorted.{IsPartitionPoint-from_clause}
use Rattle.site_tables.specs.Tables.{is_at}
use Rattle.site_tables.proofs.numbers.count_at.Goals as goal

pub returns-clause-point : goal.returns-clause-point
returns-clause-point c = λ parted.
    IsPartitionPoint-from_clause (is_at c.args.place) c.args.sites.now c.partition_point.result c.partition_point.ensures.partitioned parted (λ a r f' k. search rules)
