use Rattle.std.proofs.Common.{◌≡◌}
use Rattle.edge_tables.specs.Calls.{IsExitEdge}
use Rattle.mod_ref.proofs.Gaining.{gains_first, gains_more, gains_all}
use Rattle.edge_tables.proofs.calls.add_exits.Goals as goal

pub loop-exit-init : goal.loop-exit-init
loop-exit-init c = gains_first (IsExitEdge c.args.from.now.first c.args.from.now.nodes.now c.args.to.now.first c.args.to.now.nodes.now c.args.link) c.args.exits.now c.args.edges.now.items

pub loop-exit-preserved : goal.loop-exit-preserved
loop-exit-preserved c = gains_more (IsExitEdge c.args.from.now.first c.args.from.now.nodes.now c.args.to.now.first c.args.to.now.nodes.now c.args.link) c.args.exits.now c.loop-exit.exit-index _ c.args.edges.now.items c.loop-exit.edges.items c.add_exit.new.edges.items c.loop-exit-test.true c.loop-exit.invariant c.in_ok-add_exit.ensures

pub returns : goal.returns
returns c = gains_all (IsExitEdge c.args.from.now.first c.args.from.now.nodes.now c.args.to.now.first c.args.to.now.nodes.now c.args.link) c.args.exits.now c.loop-exit.exit-index c.args.edges.now.items c.loop-exit.edges.items c.loop-exit-test.false c.loop-exit.invariant
