use Rattle.std.proofs.Common.{◌≡◌}
use Rattle.edge_tables.specs.Calls.{IsIntoLinkEdge}
use Rattle.mod_ref.proofs.Gaining.{gains_first, gains_more, gains_all}
use Rattle.edge_tables.proofs.calls.add_links_into.Goals as goal

pub loop-link-init : goal.loop-link-init
loop-link-init c = gains_first (IsIntoLinkEdge c.args.scene.now.rows.now c.args.scene.now.firsts.now c.args.to.now.first c.args.to.now.nodes.now) c.args.links.now c.args.edges.now.items

pub loop-link-preserved : goal.loop-link-preserved
loop-link-preserved c = gains_more (IsIntoLinkEdge c.args.scene.now.rows.now c.args.scene.now.firsts.now c.args.to.now.first c.args.to.now.nodes.now) c.args.links.now c.loop-link.link-index _ c.args.edges.now.items c.loop-link.edges.items c.add_link_into.new.edges.items c.loop-link-test.true c.loop-link.invariant c.in_ok-add_link_into.ensures

pub returns : goal.returns
returns c = gains_all (IsIntoLinkEdge c.args.scene.now.rows.now c.args.scene.now.firsts.now c.args.to.now.first c.args.to.now.nodes.now) c.args.links.now c.loop-link.link-index c.args.edges.now.items c.loop-link.edges.items c.loop-link-test.false c.loop-link.invariant
