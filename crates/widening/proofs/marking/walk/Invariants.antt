use Rattle.std.proofs.Common.{◌≡◌, ◌++◌, ◌-◌, List}
use Rattle.slicer_ids.specs.declared.ids.NodeId.{NodeId}
use Rattle.tabulate.specs.Methods.{AreMethods}
use Rattle.tabulate.specs.Frames.{count}
use Rattle.thin_slice.specs.Marks.{AreNodesOf, found}
use Rattle.widening.specs.Edges.{Widened}
use Rattle.widening.specs.Pairs.{AreWhole, AreNeeded, KeepsMet, KeepsAsked}
use Rattle.widening.specs.Counts.{AreTurns}
use Rattle.widening.specs.Marks.{AreLeading, IsMarking}
use Rattle.widening.proofs.marking.walk.Given as goal

abbrev pub invariant-loop-next : goal.invariant-loop-next
invariant-loop-next g l = record {
  graphs : g.G.Graphs.sound l.graphs × g.G.Graphs.later l.initial.graphs l.graphs;
  methods : AreMethods l.f l.methods.items × KeepsMet l.initial.methods.items l.methods.items;
  whole : AreWhole l.f (Widened l.f l.expansions) l.methods.items l.pairs;
  kept : KeepsAsked l.initial.pairs.asked.items l.pairs.asked.items;
  needed : (seeds : List NodeId) → AreLeading (Widened l.f l.expansions) seeds l.phase (found l.initial.marks) → AreNeeded l.f (Widened l.f l.expansions) seeds l.initial.pairs.asked.items → AreNeeded l.f (Widened l.f l.expansions) seeds l.pairs.asked.items;
  turns : AreTurns l.f l.initial.pairs l.pairs l.initial.steps l.steps;
  marks : AreNodesOf l.f l.marks;
  leading : (seeds : List NodeId) → AreLeading (Widened l.f l.expansions) seeds l.phase (found l.initial.marks) → AreLeading (Widened l.f l.expansions) seeds l.phase (found l.marks);
  front : (more : List NodeId) × (found l.marks ≡ found l.initial.marks ++ more);
  marking : IsMarking l.f (Widened l.f l.expansions) l.phase l.methods.items l.pairs.asked.items l.next (found l.marks);
}

abbrev pub decreases-loop-next : goal.decreases-loop-next
decreases-loop-next g l = count l.f - l.next
