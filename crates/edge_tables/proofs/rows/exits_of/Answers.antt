use Rattle.std.proofs.Common.{◌≡◌, ◌↔◌, true, List, Contains, rules, sym, subst}
use Rattle.std.proofs.lemmas.List.Sorted.{IsPartitionPoint-from_clause}
use Rattle.dep_form.specs.declared.node.Node.{Node}
use Rattle.dep_form.specs.Nodes.{is_exit}
use Rattle.edge_tables.proofs.RowParts.{exits_end, is_not, no_exit, not_false, rest_members}
use Rattle.edge_tables.proofs.rows.exits_of.Goals as goal

pub returns : goal.returns
returns c = λ k.
    let rest = rest_members no_exit c.args.nodes.now c.partition_point-count.result c.partition_point-count.ensures.bound
    (IsPartitionPoint-from_clause no_exit c.args.nodes.now c.partition_point-count.result c.partition_point-count.ensures.partitioned (exits_end c.args.nodes.now c.requires) (λ a r f' g. search rules)) k in
    subst (λ (ys : List Node). Contains ys k ↔ (Contains c.args.nodes.now k × (is_exit k ≡ true))) (sym c.behind.ensures)
    (λ h. let w = rest.0 h in (w.0, not_false (is_exit k) w.1), λ h. rest.1 (h.0, is_not (is_exit k) h.1))
