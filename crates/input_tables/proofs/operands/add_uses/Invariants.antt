use Rattle.std.proofs.Common.{take}
use Rattle.worklists.specs.Growth.{FromOne}
use Rattle.mod_ref.specs.Gains.{Gains}
use Rattle.input_tables.specs.Edges.{IsUseEdge}
use Rattle.input_tables.proofs.operands.add_uses.Given as goal

abbrev pub invariant-loop-slot_use : goal.invariant-loop-slot_use
invariant-loop-slot_use l = Gains l.initial.edges.items l.edges.items (FromOne (IsUseEdge l.ground.points.now l.ground.first l.ground.row.now l.body.shape l.point) (take l.slot_use-index l.slot_use-items))
