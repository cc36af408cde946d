use Rattle.std.proofs.Common.{take}
use Rattle.worklists.specs.Growth.{FromOne}
use Rattle.mod_ref.specs.Gains.{Gains}
use Rattle.input_tables.specs.Edges.{IsDefEdge}
use Rattle.input_tables.proofs.definitions.add_defs.Given as goal

abbrev pub invariant-loop-def : goal.invariant-loop-def
invariant-loop-def l = Gains l.initial.edges.items l.edges.items (FromOne (IsDefEdge l.ground.points.now l.ground.first l.ground.row.now l.to l.label) (take l.def-index l.defs))
