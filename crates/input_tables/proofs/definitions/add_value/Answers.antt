use Rattle.mod_ref.proofs.Touched.{told}
use Rattle.input_tables.specs.Edges.{IsEdgeFrom, IsFoundNode, IsValueAt}
use Rattle.input_tables.proofs.RowEdges.{edge_from_same}
use Rattle.input_tables.proofs.definitions.add_value.Goals as goal

pub returns : goal.returns
returns c =
    let g = c.args.ground.now in
    told c.add_from.result c.args.edges.now.items c.add_from.new.edges.items (IsEdgeFrom g.first g.row.now (IsFoundNode c.value_at-from.result) c.args.to c.args.label) (IsEdgeFrom g.first g.row.now (IsValueAt g.points.now c.args.pc) c.args.to c.args.label)
    (edge_from_same g.first g.row.now (IsFoundNode c.value_at-from.result) (IsValueAt g.points.now c.args.pc) c.args.to c.args.label c.value_at-from.ensures) c.add_from.ensures
