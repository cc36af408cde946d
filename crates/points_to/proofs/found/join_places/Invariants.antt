use Rattle.std.proofs.Common.{◌≡◌, false}
use Rattle.points_to.specs.Bits.{IsMember, row_of}
use Rattle.points_to.specs.States.{Pours}
use Rattle.points_to.proofs.found.join_places.Given as goal

abbrev pub invariant-loop-number : goal.invariant-loop-number
invariant-loop-number l = record {
  pours : Pours l.initial.found l.found l.to (IsMember (row_of l.initial.found.rows.items l.from));
  partly : l.found.full ≡ false;
}
