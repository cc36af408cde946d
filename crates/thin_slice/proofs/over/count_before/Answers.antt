use Rattle.std.proofs.Common.{rules}
use Rattle.std.specs.Prelude.{nat_lt}
use Rattle.std.proofs.lemmas.Bool.{ltb-true, ltb-false}
use Rattle.std.proofs.lemmas.List.Sorted.{IsPartitionPoint-from_clause, IsPartitionedBy-ltb}
use Rattle.dep_form.specs.declared.node.Edge.{Edge}
use Rattle.thin_slice.proofs.over.count_before.Goals as goal

pub returns-clause-point : goal.returns-clause-point
returns-clause-point c =
    let h = IsPartitionPoint-from_clause (λ (e : Edge). nat_lt e.from.0 c.args.end) c.args.edges.now c.partition_point.result c.partition_point.ensures.partitioned (IsPartitionedBy-ltb (λ (e : Edge). e.from.0) c.args.edges.now c.args.end c.requires) (λ a r f' k. search rules) in
    (λ k d lo hi. ltb-true _ _ (h.0 k d lo hi), λ k d lo hi. ltb-false _ _ (h.1 k d lo hi))
