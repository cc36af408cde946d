use Rattle.std.proofs.Common.{◌≡◌}
use Rattle.input_tables.specs.Uses.{IsCalleeUse}
use Rattle.mod_ref.proofs.Gaining.{gains_first, gains_more, gains_all}
use Rattle.input_tables.proofs.heap.add_callees.Goals as goal

pub loop-node-init : goal.loop-node-init
loop-node-init c = gains_first (IsCalleeUse c.args.points.now c.args.first c.args.row.now c.args.write) c.args.row.now c.args.uses.now.items

pub loop-node-preserved : goal.loop-node-preserved
loop-node-preserved c = gains_more (IsCalleeUse c.args.points.now c.args.first c.args.row.now c.args.write) c.args.row.now c.loop-node.node-index _ c.args.uses.now.items c.loop-node.uses.items c.add_callee.new.uses.items c.loop-node-test.true c.loop-node.invariant c.in_ok-add_callee.ensures

pub returns : goal.returns
returns c = gains_all (IsCalleeUse c.args.points.now c.args.first c.args.row.now c.args.write) c.args.row.now c.loop-node.node-index c.args.uses.now.items c.loop-node.uses.items c.loop-node-test.false c.loop-node.invariant
