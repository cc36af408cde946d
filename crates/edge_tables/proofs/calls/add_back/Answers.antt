use Rattle.std.proofs.Common.{◌≡◌}
use Rattle.worklists.specs.Growth.{FromOne}
use Rattle.mod_ref.proofs.Touched.{told}
use Rattle.edge_tables.specs.Calls.{BackFlow, IsBackLinkEdge}
use Rattle.edge_tables.specs.Rows.{IsFlowEdge}
use Rattle.edge_tables.proofs.CallFlows.{back_from, back_to}
use Rattle.edge_tables.proofs.calls.add_back.Goals as goal

pub returns : goal.returns
returns c =
    let y = c.args.scene.now in
    let first = c.args.row.now.first in
    let nodes = c.args.row.now.nodes.now in
    let s = y.system.now in
    let chosen = c.of_method-links.result.now in
    told c.add_links_back.result c.args.edges.now.items c.add_links_back.new.edges.items (FromOne (IsBackLinkEdge y.rows.now y.firsts.now first nodes) chosen) (IsFlowEdge y.rows.now y.firsts.now (BackFlow s y.entries.now) c.args.m)
    (λ x. (
      back_to y.rows.now y.firsts.now s y.entries.now c.args.m first nodes c.requires.row c.args.links.now chosen x c.requires.links c.of_method-links.ensures,
      back_from y.rows.now y.firsts.now s y.entries.now c.args.m first nodes c.requires.row c.args.links.now chosen x c.requires.links c.of_method-links.ensures,
    )) c.add_links_back.ensures
