use Rattle.std.proofs.Common.{length, ◌≡◌}
use Rattle.points_to.specs.Solved.{IsTableOf, IsReachedAt}
use Rattle.points_to.proofs.reading.all_reached.Given as goal

abbrev pub invariant-loop-m : goal.invariant-loop-m
invariant-loop-m l = record {
  len : length l.all.items ≡ l.m;
  each : IsTableOf (IsReachedAt l.found) l.all.items;
}
