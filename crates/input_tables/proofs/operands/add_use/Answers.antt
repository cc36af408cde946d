use Rattle.mod_ref.proofs.Touched.{told}
use Rattle.worklists.specs.Growth.{FromOne}
use Rattle.input_tables.specs.Edges.{IsDefEdge, IsUseEdge}
use Rattle.input_tables.proofs.RowEdges.{use_edge}
use Rattle.input_tables.proofs.operands.add_use.Goals as goal

pub returns : goal.returns
returns c =
    let g = c.args.ground.now in
    let b = c.args.body.now in
    let to = c.taker_node-to.result in
    let label = c.label_of-label.result in
    let defs = c.at-defs.result.now in
    told c.add_defs.result c.args.edges.now.items c.add_defs.new.edges.items (FromOne (IsDefEdge g.points.now g.first g.row.now to label) defs) (IsUseEdge g.points.now g.first g.row.now b.shape c.args.point.now c.args.slot_use)
    (use_edge g.points.now g.first g.row.now b.shape b.reach c.requires.reach c.args.point.now c.args.slot_use to label defs c.taker_node-to.ensures c.label_of-label.ensures c.at-defs.ensures) c.add_defs.ensures
