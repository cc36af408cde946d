use Rattle.std.proofs.Common.{take, Contains}
use Rattle.worklists.specs.Growth.{Grows}
use Rattle.thin_slice.specs.Marks.{AreNodesOf, found}
use Rattle.widening.proofs.marking.add_nodes.Given as goal

abbrev pub invariant-loop-node : goal.invariant-loop-node
invariant-loop-node l = record {
  marks : AreNodesOf l.f l.marks;
  grown : Grows (found l.initial.marks) (found l.marks) (Contains (take l.node-index l.nodes));
}
