use Rattle.input_tables.specs.Exits.{IsPointExit}
use Rattle.mod_ref.proofs.Gaining.{gains_first, gains_each, gains_all}
use Rattle.input_tables.proofs.exits.add_points.Goals as goal

pub loop-point-init : goal.loop-point-init
loop-point-init c = gains_first (IsPointExit c.args.handlers.now c.args.first c.args.row.now) c.args.points.now c.args.edges.now.items

pub loop-point-preserved : goal.loop-point-preserved
loop-point-preserved c = gains_each (IsPointExit c.args.handlers.now c.args.first c.args.row.now) c.args.points.now c.loop-point.point-index c.point-item.result c.args.edges.now.items c.loop-point.edges.items c.add_point.new.edges.items c.loop-point-test.true c.point-item.is c.loop-point.invariant c.in_ok-add_point.ensures

pub returns : goal.returns
returns c = gains_all (IsPointExit c.args.handlers.now c.args.first c.args.row.now) c.args.points.now c.loop-point.point-index c.args.edges.now.items c.loop-point.edges.items c.loop-point-test.false c.loop-point.invariant
