use Rattle.input_tables.specs.Edges.{IsDefEdge}
use Rattle.mod_ref.proofs.Gaining.{gains_first, gains_more, gains_all}
use Rattle.input_tables.proofs.definitions.add_defs.Goals as goal

pub loop-def-init : goal.loop-def-init
loop-def-init c = gains_first (IsDefEdge c.args.ground.now.points.now c.args.ground.now.first c.args.ground.now.row.now c.args.to c.args.label) c.args.defs.now c.args.edges.now.items

pub loop-def-preserved : goal.loop-def-preserved
loop-def-preserved c = gains_more (IsDefEdge c.args.ground.now.points.now c.args.ground.now.first c.args.ground.now.row.now c.args.to c.args.label) c.args.defs.now c.loop-def.def-index _ c.args.edges.now.items c.loop-def.edges.items c.add_def.new.edges.items c.loop-def-test.true c.loop-def.invariant c.in_ok-add_def.ensures

pub returns : goal.returns
returns c = gains_all (IsDefEdge c.args.ground.now.points.now c.args.ground.now.first c.args.ground.now.row.now c.args.to c.args.label) c.args.defs.now c.loop-def.def-index c.args.edges.now.items c.loop-def.edges.items c.loop-def-test.false c.loop-def.invariant
