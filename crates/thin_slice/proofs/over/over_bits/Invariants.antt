use Rattle.worklists.specs.Growth.{Grows}
use Rattle.worklists.proofs.Growing.{FromBelow}
use Rattle.thin_slice.specs.Marks.{AreNodesOf, found}
use Rattle.thin_slice.specs.Over.{ByBit}
use Rattle.thin_slice.proofs.over.over_bits.Given as goal

abbrev pub invariant-loop-b : goal.invariant-loop-b
invariant-loop-b l = record {
  nodes : AreNodesOf l.f l.nodes;
  grown : Grows (found l.initial.nodes) (found l.nodes) (FromBelow (ByBit l.f l.c.call l.graph l.formals l.k l.word) l.b);
}
