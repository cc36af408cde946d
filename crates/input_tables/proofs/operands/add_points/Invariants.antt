use Rattle.std.proofs.Common.{take}
use Rattle.worklists.specs.Growth.{FromOne}
use Rattle.mod_ref.specs.Gains.{Gains}
use Rattle.input_tables.specs.Edges.{IsPointEdge}
use Rattle.input_tables.proofs.operands.add_points.Given as goal

abbrev pub invariant-loop-point : goal.invariant-loop-point
invariant-loop-point l = Gains l.initial.edges.items l.edges.items (FromOne (IsPointEdge l.ground.points.now l.ground.first l.ground.row.now l.body.shape) (take l.point-index l.points))
