use Rattle.mod_ref.proofs.Touched.{told}
use Rattle.worklists.specs.Growth.{FromOne}
use Rattle.input_tables.specs.Edges.{IsCaughtAt, IsEdgeFrom, IsRaiseEdge}
use Rattle.input_tables.proofs.RowEdges.{caught_is}
use Rattle.input_tables.proofs.definitions.add_caught.Goals as goal

pub returns : goal.returns
returns c =
    let g = c.args.ground.now in
    told c.add_each_raised.result c.args.edges.now.items c.add_each_raised.new.edges.items (FromOne (IsRaiseEdge g.points.now g.first g.row.now c.args.to c.args.label) c.of_handler-raises.result.now) (IsEdgeFrom g.first g.row.now (IsCaughtAt g.points.now c.args.h) c.args.to c.args.label)
    (caught_is g.points.now g.first g.row.now c.args.to c.args.label g.raises.now c.of_handler-raises.result.now c.args.h c.requires.raises c.of_handler-raises.ensures) c.add_each_raised.ensures
