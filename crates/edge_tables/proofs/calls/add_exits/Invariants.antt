use Rattle.std.proofs.Common.{take, ◌≡◌}
use Rattle.worklists.specs.Growth.{FromOne}
use Rattle.mod_ref.specs.Gains.{Gains}
use Rattle.edge_tables.specs.Calls.{IsExitEdge}
use Rattle.edge_tables.proofs.calls.add_exits.Given as goal

abbrev pub invariant-loop-exit : goal.invariant-loop-exit
invariant-loop-exit l = Gains l.initial.edges.items l.edges.items (FromOne (IsExitEdge l.from.first l.from.nodes.now l.to.first l.to.nodes.now l.link) (take l.exit-index l.exits))
