use Rattle.std.proofs.Common.{◌≡◌, sym, ◌∙◌}
use Rattle.slicer_ids.specs.declared.ids.Statement.{Statement}
use Rattle.mod_ref.proofs.Gaining.{gains_none}
use Rattle.mod_ref.proofs.Touched.{told}
use Rattle.edge_tables.specs.Outside.{IsOutsideEdge, IsStatementEdge}
use Rattle.edge_tables.proofs.OutsideEdges.{node_is}
use Rattle.edge_tables.proofs.outside.add_node.Goals as goal

pub returns-in-None : goal.returns-in-None
returns-in-None c = gains_none c.args.edges.now.items (IsOutsideEdge c.args.row.now.first c.args.row.now.nodes.now c.args.scene.now.system.now c.args.m c.args.node) (λ x (pc, i, e, h). cc (sym c.in-None.is ∙ (c.argument_of.ensures pc i).1 e))

pub returns-in-Some : goal.returns-in-Some
returns-in-Some c =
    let first = c.args.row.now.first in
    let nodes = c.args.row.now.nodes.now in
    let s = c.args.scene.now.system.now in
    told c.add_statement.result c.args.edges.now.items c.add_statement.new.edges.items (IsStatementEdge first nodes s (record { method = c.args.m; pc = c.in-Some.pc }) c.in-Some.i) (IsOutsideEdge first nodes s c.args.m c.args.node)
    (node_is first nodes s c.args.m c.args.node c.in-Some.pc c.in-Some.i c.argument_of.result c.argument_of.ensures c.in-Some.is) c.add_statement.ensures
