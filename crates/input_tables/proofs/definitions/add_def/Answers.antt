use Rattle.mod_ref.proofs.Touched.{told}
use Rattle.dep_form.specs.declared.node.Node.TheVariants.{Formal}
use Rattle.input_tables.specs.Edges.{IsCaughtAt, IsDefEdge, IsEdgeBy, IsEdgeFrom, IsValueAt}
use Rattle.input_tables.proofs.RowEdges.{caught_edge, formal_is, value_edge}
use Rattle.input_tables.proofs.definitions.add_def.Goals as goal

pub returns-in-Formal : goal.returns-in-Formal
returns-in-Formal c =
    let g = c.args.ground.now in
    told c.add_edge.result c.args.edges.now.items c.add_edge.new.edges.items (IsEdgeBy g.first g.row.now (Formal c.in-Formal.i) c.args.to c.args.label) (IsDefEdge g.points.now g.first g.row.now c.args.to c.args.label c.args.def)
    (formal_is g.points.now g.first g.row.now c.args.to c.args.label c.args.def c.in-Formal.i c.in-Formal.is) c.add_edge.ensures

pub returns-in-Value : goal.returns-in-Value
returns-in-Value c =
    let g = c.args.ground.now in
    told c.add_value.result c.args.edges.now.items c.add_value.new.edges.items (IsEdgeFrom g.first g.row.now (IsValueAt g.points.now c.in-Value.pc) c.args.to c.args.label) (IsDefEdge g.points.now g.first g.row.now c.args.to c.args.label c.args.def)
    (value_edge g.points.now g.first g.row.now c.args.to c.args.label c.args.def c.in-Value.pc c.in-Value.is) c.add_value.ensures

pub returns-in-Caught : goal.returns-in-Caught
returns-in-Caught c =
    let g = c.args.ground.now in
    told c.add_caught.result c.args.edges.now.items c.add_caught.new.edges.items (IsEdgeFrom g.first g.row.now (IsCaughtAt g.points.now c.in-Caught.h) c.args.to c.args.label) (IsDefEdge g.points.now g.first g.row.now c.args.to c.args.label c.args.def)
    (caught_edge g.points.now g.first g.row.now c.args.to c.args.label c.args.def c.in-Caught.h c.in-Caught.is) c.add_caught.ensures
