use Rattle.std.proofs.Common.{length, ◌≡◌}
use Rattle.points_to.specs.Solved.{IsTableOf, AreTargetsOf}
use Rattle.points_to.proofs.reading.all_targets.Given as goal

abbrev pub invariant-loop-c : goal.invariant-loop-c
invariant-loop-c l = record {
  len : length l.all.items ≡ l.c;
  each : IsTableOf (AreTargetsOf l.found) l.all.items;
}
