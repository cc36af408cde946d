use Rattle.std.proofs.Common.{◌+◌, ◌-◌, List, length}
use Rattle.slicer_ids.specs.declared.ids.NodeId.{NodeId}
use Rattle.tabulate.specs.Methods.{AreMethods}
use Rattle.tabulate.specs.Found.{total}
use Rattle.tabulate.proofs.Bounds.{cap}
use Rattle.widening.specs.Edges.{Widened}
use Rattle.widening.specs.Pairs.{ArePairs, IsDone, AreNeeded, KeepsMet, KeepsAsked, Has, Waits}
use Rattle.widening.specs.Counts.{AreTurns}
use Rattle.widening.proofs.following.run.Given as goal

abbrev pub invariant-loop-buffers : goal.invariant-loop-buffers
invariant-loop-buffers g l = record {
  graphs : g.G.Graphs.sound l.graphs × g.G.Graphs.later l.initial.graphs l.graphs;
  methods : AreMethods l.f l.methods.items × KeepsMet l.initial.methods.items l.methods.items;
  pairs : ArePairs l.f (Widened l.f l.expansions) l.methods.items l.pairs;
  done : IsDone l.f (Widened l.f l.expansions) (Has l.f l.pairs) (Waits l.f l.pairs);
  kept : KeepsAsked l.initial.pairs.asked.items l.pairs.asked.items;
  needed : (seeds : List NodeId) → AreNeeded l.f (Widened l.f l.expansions) seeds l.initial.pairs.asked.items → AreNeeded l.f (Widened l.f l.expansions) seeds l.pairs.asked.items;
  turns : AreTurns l.f l.initial.pairs l.pairs l.initial.steps l.steps;
}

abbrev pub decreases-loop-buffers : goal.decreases-loop-buffers
decreases-loop-buffers g l = (cap l.f - total l.pairs.found.items) + length l.pairs.queue.items
