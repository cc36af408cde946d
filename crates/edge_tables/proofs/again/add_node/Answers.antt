use Rattle.std.proofs.Common.{◌≡◌, sym, ◌∙◌}
use Rattle.worklists.proofs.Growing.{FromBelow}
use Rattle.mod_ref.proofs.Gaining.{gains_none}
use Rattle.mod_ref.proofs.Touched.{told}
use Rattle.edge_tables.specs.Again.{IsAgainEdge, IsPairEdge}
use Rattle.edge_tables.proofs.AgainEdges.{node_is}
use Rattle.edge_tables.proofs.again.add_node.Goals as goal

pub returns-in-None : goal.returns-in-None
returns-in-None c = gains_none c.args.edges.now.items (IsAgainEdge c.args.row.now.first c.args.row.now.nodes.now c.args.calls c.args.node) (λ x (k, n, e, h). cc (sym c.in-None.is ∙ (c.changed_of.ensures k n).1 e))

pub returns-in-Some : goal.returns-in-Some
returns-in-Some c =
    let first = c.args.row.now.first in
    let nodes = c.args.row.now.nodes.now in
    told c.add_pairs.result c.args.edges.now.items c.add_pairs.new.edges.items (FromBelow (IsPairEdge first nodes c.in-Some.k c.in-Some.n) c.args.calls) (IsAgainEdge first nodes c.args.calls c.args.node)
    (node_is first nodes c.args.calls c.args.node c.in-Some.k c.in-Some.n c.changed_of.result c.changed_of.ensures c.in-Some.is) c.add_pairs.ensures
