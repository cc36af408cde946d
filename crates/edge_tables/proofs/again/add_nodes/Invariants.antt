use Rattle.std.proofs.Common.{take, ◌≡◌}
use Rattle.worklists.specs.Growth.{FromOne}
use Rattle.mod_ref.specs.Gains.{Gains}
use Rattle.edge_tables.specs.Again.{IsAgainEdge}
use Rattle.edge_tables.proofs.again.add_nodes.Given as goal

abbrev pub invariant-loop-node : goal.invariant-loop-node
invariant-loop-node l = Gains l.initial.edges.items l.edges.items (FromOne (IsAgainEdge l.row.first l.row.nodes.now l.calls) (take l.node-index l.nodes))
