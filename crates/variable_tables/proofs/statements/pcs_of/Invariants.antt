use Rattle.std.proofs.Common.{[], take}
use Rattle.worklists.specs.Growth.{FromOne}
use Rattle.variable_tables.specs.Growth.{GrowsInOrder}
use Rattle.variable_tables.specs.Statements.{Rises, PointHas}
use Rattle.variable_tables.proofs.statements.pcs_of.Given as goal

abbrev pub invariant-loop-point : goal.invariant-loop-point
invariant-loop-point l = GrowsInOrder Rises [] l.pcs.items (FromOne (PointHas l.kind l.body.instrs) (take l.point-index l.point-items))
