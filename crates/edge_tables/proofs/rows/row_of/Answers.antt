use Rattle.std.proofs.Common.{◌≡◌, ◌≤◌, List, AllPairs, length, ap, subst, sym, ◌∙◌, arith}
use Rattle.std.proofs.lemmas.List.Sums.{sum_by_more_le}
use Rattle.std.proofs.lemmas.Option.{get_or_from_slice_get, slice_get_within}
use Rattle.dep_form.specs.Nodes.{ComesBefore}
use Rattle.dep_form.specs.declared.node.Node.{Node}
use Rattle.edge_tables.specs.Rows.{size_of}
use Rattle.edge_tables.proofs.rows.row_of.Goals as goal

pub returns-clause-row : goal.returns-clause-row
returns-clause-row c = let (v, at, same) = c.nodes_at-nodes.ensures in (v, at, same, c.first_at-first.ensures)

pub returns-clause-order : goal.returns-clause-order
returns-clause-order c = let (v, at, same) = c.nodes_at-nodes.ensures in subst (λ (ns : List Node). AllPairs ComesBefore ns) same (c.requires.rows.ordered c.args.m.0 v at)

pub returns-clause-numbers : goal.returns-clause-numbers
returns-clause-numbers c =
    let (v, at, same) = c.nodes_at-nodes.ensures in
    let rows = c.args.rows.now in
    let m = c.args.m.0 in
    omega (arith, c.requires.rows.firsts_are.are m c.first_at-first.result c.first_at-first.ensures, sum_by_more_le size_of rows m v (slice_get_within rows m v at), ap size_of (get_or_from_slice_get rows m v v at), ap (λ (ns : List Node). length ns) same, c.requires.rows.few)
