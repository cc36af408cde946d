use Rattle.std.proofs.Common.{◌≡◌}
use Rattle.edge_tables.specs.Calls.{IsFormalEdge}
use Rattle.mod_ref.proofs.Gaining.{gains_first, gains_more, gains_all}
use Rattle.edge_tables.proofs.calls.add_formals.Goals as goal

pub loop-formal-init : goal.loop-formal-init
loop-formal-init c = gains_first (IsFormalEdge c.args.from.now.first c.args.from.now.nodes.now c.args.to.now.first c.args.to.now.nodes.now c.args.link) c.args.formals.now c.args.edges.now.items

pub loop-formal-preserved : goal.loop-formal-preserved
loop-formal-preserved c = gains_more (IsFormalEdge c.args.from.now.first c.args.from.now.nodes.now c.args.to.now.first c.args.to.now.nodes.now c.args.link) c.args.formals.now c.loop-formal.formal-index _ c.args.edges.now.items c.loop-formal.edges.items c.add_formal.new.edges.items c.loop-formal-test.true c.loop-formal.invariant c.in_ok-add_formal.ensures

pub returns : goal.returns
returns c = gains_all (IsFormalEdge c.args.from.now.first c.args.from.now.nodes.now c.args.to.now.first c.args.to.now.nodes.now c.args.link) c.args.formals.now c.loop-formal.formal-index c.args.edges.now.items c.loop-formal.edges.items c.loop-formal-test.false c.loop-formal.invariant
