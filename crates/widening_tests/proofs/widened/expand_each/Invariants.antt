use Rattle.widening.specs.Widened.{IsWide}
use Rattle.widening_tests.proofs.widened.expand_each.Given as goal

abbrev pub invariant-loop-access : goal.invariant-loop-access
invariant-loop-access g l = record {
  graphs : g.G.Graphs.sound l.graphs × g.G.Graphs.later l.initial.graphs l.graphs;
  wide : IsWide l.f l.wide;
}
