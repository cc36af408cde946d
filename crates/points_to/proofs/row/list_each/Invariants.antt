use Rattle.std.proofs.Common.{◌+◌, ◌*◌}
use Rattle.points_to.specs.Bits.{ListsBelow}
use Rattle.points_to.proofs.row.list_each.Given as goal

abbrev pub invariant-loop-b : goal.invariant-loop-b
invariant-loop-b l = ListsBelow l.row (64 * l.place + l.b) l.list.items
