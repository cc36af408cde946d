use Rattle.std.proofs.Common.{take, ◌≡◌}
use Rattle.worklists.specs.Growth.{FromOne}
use Rattle.mod_ref.specs.Gains.{Gains}
use Rattle.edge_tables.specs.Outside.{IsOutsideEdge}
use Rattle.edge_tables.proofs.outside.add_nodes.Given as goal

abbrev pub invariant-loop-node : goal.invariant-loop-node
invariant-loop-node l = Gains l.initial.edges.items l.edges.items (FromOne (IsOutsideEdge l.row.first l.row.nodes.now l.scene.system.now l.m) (take l.node-index l.nodes))
