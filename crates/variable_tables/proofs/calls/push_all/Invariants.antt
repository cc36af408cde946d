use Rattle.std.proofs.Common.{take}
use Rattle.slicer_ids.specs.Order.{StatementBefore}
use Rattle.worklists.specs.Growth.{FromOne}
use Rattle.variable_tables.specs.Growth.{GrowsInOrder}
use Rattle.variable_tables.proofs.Orders.{IsThere}
use Rattle.variable_tables.proofs.calls.push_all.Given as goal

abbrev pub invariant-loop-pc : goal.invariant-loop-pc
invariant-loop-pc l = GrowsInOrder StatementBefore l.initial.calls.items l.calls.items (FromOne (IsThere l.method) (take l.pc-index l.pcs))
