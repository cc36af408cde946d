use Rattle.std.proofs.Common.{take, ◌≡◌}
use Rattle.worklists.specs.Growth.{FromOne}
use Rattle.mod_ref.specs.Gains.{Gains}
use Rattle.input_tables.specs.Uses.{IsCalleeUse}
use Rattle.input_tables.proofs.heap.add_callees.Given as goal

abbrev pub invariant-loop-node : goal.invariant-loop-node
invariant-loop-node l = Gains l.initial.uses.items l.uses.items (FromOne (IsCalleeUse l.points l.first l.row l.write) (take l.node-index l.row))
