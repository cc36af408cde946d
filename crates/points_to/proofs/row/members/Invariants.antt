use Rattle.std.proofs.Common.{◌*◌}
use Rattle.points_to.specs.Bits.{ListsBelow}
use Rattle.points_to.proofs.row.members.Given as goal

abbrev pub invariant-loop-place : goal.invariant-loop-place
invariant-loop-place l = ListsBelow l.row (64 * l.place) l.list.items
