use Rattle.input_tables.specs.Edges.{IsRaiseEdge}
use Rattle.mod_ref.proofs.Gaining.{gains_first, gains_more, gains_all}
use Rattle.input_tables.proofs.definitions.add_each_raised.Goals as goal

pub loop-raise-init : goal.loop-raise-init
loop-raise-init c = gains_first (IsRaiseEdge c.args.ground.now.points.now c.args.ground.now.first c.args.ground.now.row.now c.args.to c.args.label) c.args.raises.now c.args.edges.now.items

pub loop-raise-preserved : goal.loop-raise-preserved
loop-raise-preserved c = gains_more (IsRaiseEdge c.args.ground.now.points.now c.args.ground.now.first c.args.ground.now.row.now c.args.to c.args.label) c.args.raises.now c.loop-raise.raise-index _ c.args.edges.now.items c.loop-raise.edges.items c.add_raised.new.edges.items c.loop-raise-test.true c.loop-raise.invariant c.in_ok-add_raised.ensures

pub returns : goal.returns
returns c = gains_all (IsRaiseEdge c.args.ground.now.points.now c.args.ground.now.first c.args.ground.now.row.now c.args.to c.args.label) c.args.raises.now c.loop-raise.raise-index c.args.edges.now.items c.loop-raise.edges.items c.loop-raise-test.false c.loop-raise.invariant
