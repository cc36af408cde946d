use Rattle.mod_ref.proofs.Gaining.{gains_none}
use Rattle.mod_ref.proofs.Touched.{told}
use Rattle.input_tables.specs.Edges.{IsEdgeBy, IsEdgeFrom, IsFoundNode}
use Rattle.input_tables.proofs.RowEdges.{edge_from_found, edge_from_none}
use Rattle.input_tables.proofs.edges.add_from.Goals as goal

pub returns-in-None : goal.returns-in-None
returns-in-None c =
    gains_none c.args.edges.now.items (IsEdgeFrom c.args.first c.args.row.now (IsFoundNode c.args.from) c.args.to c.args.label) (edge_from_none c.args.first c.args.row.now c.args.to c.args.from c.args.label c.in-None.is)

pub returns-in-Some : goal.returns-in-Some
returns-in-Some c =
    told c.add_edge.result c.args.edges.now.items c.add_edge.new.edges.items (IsEdgeBy c.args.first c.args.row.now c.in-Some.node c.args.to c.args.label) (IsEdgeFrom c.args.first c.args.row.now (IsFoundNode c.args.from) c.args.to c.args.label)
    (edge_from_found c.args.first c.args.row.now c.in-Some.node c.args.to c.args.from c.args.label c.in-Some.is) c.add_edge.ensures
