use Rattle.std.proofs.Common.{List, take}
use Rattle.slicer_ids.specs.declared.ids.NodeId.{NodeId}
use Rattle.tabulate.specs.Methods.{AreMethods}
use Rattle.thin_slice.specs.Marks.{AreNodesOf, found}
use Rattle.widening.specs.Edges.{Widened}
use Rattle.widening.specs.Pairs.{AreWhole, AreNeeded, KeepsMet, KeepsAsked}
use Rattle.widening.specs.Counts.{AreTurns}
use Rattle.widening.specs.Marks.{AreLeading, AreStepped}
use Rattle.widening.proofs.marking.step_again.Given as goal

abbrev pub invariant-loop-node : goal.invariant-loop-node
invariant-loop-node g l = record {
  graphs : g.G.Graphs.sound l.graphs × g.G.Graphs.later l.initial.graphs l.graphs;
  methods : AreMethods l.f l.methods.items × KeepsMet l.initial.methods.items l.methods.items;
  whole : AreWhole l.f (Widened l.f l.expansions) l.methods.items l.pairs;
  kept : KeepsAsked l.initial.pairs.asked.items l.pairs.asked.items;
  needed : (seeds : List NodeId) → AreLeading (Widened l.f l.expansions) seeds l.phase (found l.initial.marks) → AreNeeded l.f (Widened l.f l.expansions) seeds l.initial.pairs.asked.items → AreNeeded l.f (Widened l.f l.expansions) seeds l.pairs.asked.items;
  turns : AreTurns l.f l.initial.pairs l.pairs l.initial.steps l.steps;
  marks : AreNodesOf l.f l.marks;
  leading : (seeds : List NodeId) → AreLeading (Widened l.f l.expansions) seeds l.phase (found l.initial.marks) → AreLeading (Widened l.f l.expansions) seeds l.phase (found l.marks);
  stepped : AreStepped (Widened l.f l.expansions) l.phase (take l.node-index l.nodes) (found l.initial.marks) (found l.marks);
}
