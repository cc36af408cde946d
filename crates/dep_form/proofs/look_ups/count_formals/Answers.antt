use Rattle.std.proofs.Common.{rules, sym}
use Rattle.std.proofs.lemmas.List.Sorted.{IsPartitionPoint-from_clause}
use Rattle.dep_form.specs.Nodes.{is_formal}
use Rattle.dep_form.proofs.Firsts.{counted}
use Rattle.dep_form.proofs.look_ups.count_formals.Goals as goal

pub returns : goal.returns
returns c = sym (counted is_formal c.args.nodes.now c.partition_point.result c.partition_point.ensures.bound (IsPartitionPoint-from_clause is_formal c.args.nodes.now c.partition_point.result c.partition_point.ensures.partitioned c.requires.first (λ a r f' k. search rules)))
