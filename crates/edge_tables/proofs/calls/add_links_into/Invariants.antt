use Rattle.std.proofs.Common.{take, ◌≡◌}
use Rattle.worklists.specs.Growth.{FromOne}
use Rattle.mod_ref.specs.Gains.{Gains}
use Rattle.edge_tables.specs.Calls.{IsIntoLinkEdge}
use Rattle.edge_tables.proofs.calls.add_links_into.Given as goal

abbrev pub invariant-loop-link : goal.invariant-loop-link
invariant-loop-link l = Gains l.initial.edges.items l.edges.items (FromOne (IsIntoLinkEdge l.scene.rows.now l.scene.firsts.now l.to.first l.to.nodes.now) (take l.link-index l.links))
