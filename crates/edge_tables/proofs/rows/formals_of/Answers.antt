use Rattle.std.proofs.Common.{rules}
use Rattle.std.proofs.lemmas.List.Sorted.{IsPartitionPoint-from_clause}
use Rattle.dep_form.specs.Nodes.{is_formal}
use Rattle.edge_tables.proofs.RowParts.{formals_lead, front_members}
use Rattle.edge_tables.proofs.rows.formals_of.Goals as goal

pub returns : goal.returns
returns c =
    front_members is_formal c.args.nodes.now c.partition_point-count.result c.partition_point-count.ensures.bound
    (IsPartitionPoint-from_clause is_formal c.args.nodes.now c.partition_point-count.result c.partition_point-count.ensures.partitioned (formals_lead c.args.nodes.now c.requires) (λ a r f' k. search rules))
