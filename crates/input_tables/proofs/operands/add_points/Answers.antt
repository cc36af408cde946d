use Rattle.input_tables.specs.Edges.{IsPointEdge}
use Rattle.mod_ref.proofs.Gaining.{gains_first, gains_each, gains_all}
use Rattle.input_tables.proofs.operands.add_points.Goals as goal

pub loop-point-init : goal.loop-point-init
loop-point-init c = gains_first (IsPointEdge c.args.ground.now.points.now c.args.ground.now.first c.args.ground.now.row.now c.args.body.now.shape) c.args.points.now c.args.edges.now.items

pub loop-point-preserved : goal.loop-point-preserved
loop-point-preserved c = gains_each (IsPointEdge c.args.ground.now.points.now c.args.ground.now.first c.args.ground.now.row.now c.args.body.now.shape) c.args.points.now c.loop-point.point-index c.point-item.result c.args.edges.now.items c.loop-point.edges.items c.add_uses.new.edges.items c.loop-point-test.true c.point-item.is c.loop-point.invariant c.in_ok-add_uses.ensures

pub returns : goal.returns
returns c = gains_all (IsPointEdge c.args.ground.now.points.now c.args.ground.now.first c.args.ground.now.row.now c.args.body.now.shape) c.args.points.now c.loop-point.point-index c.args.edges.now.items c.loop-point.edges.items c.loop-point-test.false c.loop-point.invariant
