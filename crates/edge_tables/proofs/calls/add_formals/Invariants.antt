use Rattle.std.proofs.Common.{take, ◌≡◌}
use Rattle.worklists.specs.Growth.{FromOne}
use Rattle.mod_ref.specs.Gains.{Gains}
use Rattle.edge_tables.specs.Calls.{IsFormalEdge}
use Rattle.edge_tables.proofs.calls.add_formals.Given as goal

abbrev pub invariant-loop-formal : goal.invariant-loop-formal
invariant-loop-formal l = Gains l.initial.edges.items l.edges.items (FromOne (IsFormalEdge l.from.first l.from.nodes.now l.to.first l.to.nodes.now l.link) (take l.formal-index l.formals))
