use Rattle.std.proofs.Common.{take, ◌≡◌}
use Rattle.worklists.specs.Growth.{FromOne}
use Rattle.mod_ref.specs.Gains.{Gains}
use Rattle.edge_tables.specs.Calls.{IsBackLinkEdge}
use Rattle.edge_tables.proofs.calls.add_links_back.Given as goal

abbrev pub invariant-loop-link : goal.invariant-loop-link
invariant-loop-link l = Gains l.initial.edges.items l.edges.items (FromOne (IsBackLinkEdge l.scene.rows.now l.scene.firsts.now l.to.first l.to.nodes.now) (take l.link-index l.links))
