use Rattle.std.proofs.Common.{◌≡◌}
use Rattle.slice_bench.proofs.widened.widen_again.Given as goal

abbrev pub invariant-loop : goal.invariant-loop
invariant-loop g l = g.G.Graphs.sound l.graphs × (g.G.Graphs.facts l.graphs ≡ l.f)
