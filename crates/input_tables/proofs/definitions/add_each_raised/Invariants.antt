use Rattle.std.proofs.Common.{take}
use Rattle.worklists.specs.Growth.{FromOne}
use Rattle.mod_ref.specs.Gains.{Gains}
use Rattle.input_tables.specs.Edges.{IsRaiseEdge}
use Rattle.input_tables.proofs.definitions.add_each_raised.Given as goal

abbrev pub invariant-loop-raise : goal.invariant-loop-raise
invariant-loop-raise l = Gains l.initial.edges.items l.edges.items (FromOne (IsRaiseEdge l.ground.points.now l.ground.first l.ground.row.now l.to l.label) (take l.raise-index l.raises))
