use Rattle.std.proofs.Common.{length, ◌≡◌}
use Rattle.points_to.specs.Solved.{IsTableOf, AreReceiversOf}
use Rattle.points_to.proofs.reading.all_receivers.Given as goal

abbrev pub invariant-loop-c : goal.invariant-loop-c
invariant-loop-c l = record {
  len : length l.all.items ≡ l.c;
  each : IsTableOf (AreReceiversOf l.found) l.all.items;
}
