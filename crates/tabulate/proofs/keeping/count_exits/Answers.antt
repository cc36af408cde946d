use Rattle.std.proofs.Common.{List, ltb, rules, sym, subst, ◌∙◌, ap}
use Rattle.std.specs.List.Sorted.{IsNonDecreasingBy}
use Rattle.std.proofs.lemmas.List.Sorted.{IsPartitionPoint-from_clause, IsPartitionedBy-ltb}
use Rattle.slicer_ids.specs.declared.ids.NodeId.{NodeId}
use Rattle.dep_form.proofs.Firsts.{counted}
use Rattle.tabulate.specs.Frames.{before}
use Rattle.tabulate.proofs.Placing.{exits_ascend}
use Rattle.tabulate.proofs.keeping.count_exits.Goals as goal

pub returns : goal.returns
returns c =
    let xs = c.items.result.now in
    let n = c.args.below in
    let parted : IsNonDecreasingBy (λ (x : NodeId). x.0) xs = subst (λ (ys : List NodeId). IsNonDecreasingBy (λ (x : NodeId). x.0) ys) (sym c.items.ensures) (exits_ascend c.args.f.now) in
    let h = IsPartitionPoint-from_clause (λ (x : NodeId). ltb x.0 n) xs c.partition_point.result c.partition_point.ensures.partitioned (IsPartitionedBy-ltb (λ (x : NodeId). x.0) xs n parted) (λ a r f' k. search rules) in
    sym (counted (λ (x : NodeId). ltb x.0 n) xs c.partition_point.result c.partition_point.ensures.bound h) ∙ ap (before n) c.items.ensures
