use Rattle.mod_ref.proofs.Touched.{told}
use Rattle.dep_form.specs.declared.node.Label.TheVariants.{Thin}
use Rattle.dep_form.specs.declared.node.Node.TheVariants.{Thrown}
use Rattle.input_tables.specs.Edges.{IsEdgeFrom, IsFoundNode}
use Rattle.input_tables.specs.Exits.{IsLeavingNode, IsThrownEdge}
use Rattle.input_tables.proofs.RowEdges.{edge_from_same}
use Rattle.input_tables.proofs.exits.add_thrown.Goals as goal

pub returns : goal.returns
returns c = told c.add_from.result c.args.edges.now.items c.add_from.new.edges.items (IsEdgeFrom c.args.first c.args.row.now (IsFoundNode c.leaving_node-from.result) Thrown Thin) (IsThrownEdge c.args.handlers.now c.args.first c.args.row.now c.args.point.now)
    (edge_from_same c.args.first c.args.row.now (IsFoundNode c.leaving_node-from.result) (IsLeavingNode c.args.handlers.now c.args.point.now.op c.args.point.now.pc) Thrown Thin c.leaving_node-from.ensures) c.add_from.ensures
