use Rattle.std.proofs.Common.{◌≡◌}
use Rattle.edge_tables.specs.Outside.{IsOutsideEdge}
use Rattle.mod_ref.proofs.Gaining.{gains_first, gains_more, gains_all}
use Rattle.edge_tables.proofs.outside.add_nodes.Goals as goal

pub loop-node-init : goal.loop-node-init
loop-node-init c = gains_first (IsOutsideEdge c.args.row.now.first c.args.row.now.nodes.now c.args.scene.now.system.now c.args.m) c.args.nodes.now c.args.edges.now.items

pub loop-node-preserved : goal.loop-node-preserved
loop-node-preserved c = gains_more (IsOutsideEdge c.args.row.now.first c.args.row.now.nodes.now c.args.scene.now.system.now c.args.m) c.args.nodes.now c.loop-node.node-index _ c.args.edges.now.items c.loop-node.edges.items c.add_node.new.edges.items c.loop-node-test.true c.loop-node.invariant c.in_ok-add_node.ensures

pub returns : goal.returns
returns c = gains_all (IsOutsideEdge c.args.row.now.first c.args.row.now.nodes.now c.args.scene.now.system.now c.args.m) c.args.nodes.now c.loop-node.node-index c.args.edges.now.items c.loop-node.edges.items c.loop-node-test.false c.loop-node.invariant
