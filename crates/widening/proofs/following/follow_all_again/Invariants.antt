use Rattle.std.proofs.Common.{List, drop}
use Rattle.slicer_ids.specs.declared.ids.NodeId.{NodeId}
use Rattle.tabulate.specs.Methods.{AreMethods}
use Rattle.widening.specs.Edges.{Widened}
use Rattle.widening.specs.Pairs.{ArePairs, IsDone, AreNeeded, AreSameTaken, KeepsMet, KeepsAsked, Has}
use Rattle.widening.proofs.FollowLaws.{Left}
use Rattle.widening.proofs.following.follow_all_again.Given as goal

abbrev pub invariant-loop-node : goal.invariant-loop-node
invariant-loop-node g l = record {
  graphs : g.G.Graphs.sound l.graphs × g.G.Graphs.later l.initial.graphs l.graphs;
  methods : AreMethods l.f l.methods.items × KeepsMet l.initial.methods.items l.methods.items;
  pairs : ArePairs l.f (Widened l.f l.expansions) l.methods.items l.pairs;
  done : IsDone l.f (Widened l.f l.expansions) (Has l.f l.initial.pairs) (Left l.f (Widened l.f l.expansions) l.initial.pairs l.nodes) → IsDone l.f (Widened l.f l.expansions) (Has l.f l.pairs) (Left l.f (Widened l.f l.expansions) l.pairs (drop l.node-index l.nodes));
  same : AreSameTaken l.f l.initial.pairs l.pairs;
  kept : KeepsAsked l.initial.pairs.asked.items l.pairs.asked.items;
  needed : (seeds : List NodeId) → AreNeeded l.f (Widened l.f l.expansions) seeds l.initial.pairs.asked.items → AreNeeded l.f (Widened l.f l.expansions) seeds l.pairs.asked.items;
}
