use Rattle.mod_ref.proofs.Touched.{told}
use Rattle.dep_form.specs.declared.node.Label.TheVariants.{Thin}
use Rattle.dep_form.specs.declared.node.Node.TheVariants.{Return}
use Rattle.input_tables.specs.Edges.{IsEdgeFrom, IsFoundNode}
use Rattle.input_tables.specs.Exits.{IsReturnEdge, IsReturnNode}
use Rattle.input_tables.proofs.RowEdges.{edge_from_same}
use Rattle.input_tables.proofs.exits.add_return.Goals as goal

pub returns : goal.returns
returns c = told c.add_from.result c.args.edges.now.items c.add_from.new.edges.items (IsEdgeFrom c.args.first c.args.row.now (IsFoundNode c.return_node-from.result) Return Thin) (IsReturnEdge c.args.first c.args.row.now c.args.point.now)
    (edge_from_same c.args.first c.args.row.now (IsFoundNode c.return_node-from.result) (IsReturnNode c.args.point.now.op c.args.point.now.pc) Return Thin c.return_node-from.ensures) c.add_from.ensures
