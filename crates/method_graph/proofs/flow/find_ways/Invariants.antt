use Rattle.std.proofs.Common.{◌≡◌, ℕ, ◌+◌, ◌*◌, false, if◌then◌else◌}
use Rattle.method_graph.specs.Flows.{Goes, AreWays, Follows, room}
use Rattle.method_graph.proofs.flow.find_ways.Given as goal

abbrev pub invariant-loop-going : goal.invariant-loop-going
invariant-loop-going l = record {
  points : l.ways.points ≡ l.fn.points;
  sound : AreWays l.flow l.ways.width l.ways.words.items;
  follows : l.going ≡ false → (p q : ℕ) → Goes l.flow p q → Follows l.ways.width l.ways.words.items p q;
}

abbrev pub decreases-loop-going : goal.decreases-loop-going
decreases-loop-going l = 2 * room l.ways.words.items + (if l.going then 1 else 0)
