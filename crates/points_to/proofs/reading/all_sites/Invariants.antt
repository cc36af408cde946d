use Rattle.std.proofs.Common.{length, ◌≡◌}
use Rattle.points_to.specs.Solved.{IsTableOf, AreSitesOf}
use Rattle.points_to.proofs.reading.all_sites.Given as goal

abbrev pub invariant-loop-v : goal.invariant-loop-v
invariant-loop-v l = record {
  len : length l.all.items ≡ l.v;
  each : IsTableOf (AreSitesOf l.found) l.all.items;
}
