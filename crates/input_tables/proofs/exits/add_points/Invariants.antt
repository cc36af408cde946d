use Rattle.std.proofs.Common.{take}
use Rattle.worklists.specs.Growth.{FromOne}
use Rattle.mod_ref.specs.Gains.{Gains}
use Rattle.input_tables.specs.Exits.{IsPointExit}
use Rattle.input_tables.proofs.exits.add_points.Given as goal

abbrev pub invariant-loop-point : goal.invariant-loop-point
invariant-loop-point l = Gains l.initial.edges.items l.edges.items (FromOne (IsPointExit l.handlers l.first l.row) (take l.point-index l.points))
