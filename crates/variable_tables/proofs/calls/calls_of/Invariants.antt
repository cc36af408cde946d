use Rattle.std.proofs.Common.{[], take}
use Rattle.slicer_ids.specs.Order.{StatementBefore}
use Rattle.worklists.specs.Growth.{FromOne}
use Rattle.variable_tables.specs.Growth.{GrowsInOrder}
use Rattle.variable_tables.specs.Members.{IsCallIn}
use Rattle.variable_tables.proofs.calls.calls_of.Given as goal

abbrev pub invariant-loop-body : goal.invariant-loop-body
invariant-loop-body l = GrowsInOrder StatementBefore [] l.calls.items (FromOne IsCallIn (take l.body-index l.bodies))
