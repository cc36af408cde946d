use Rattle.worklists.specs.Growth.{Grows}
use Rattle.worklists.proofs.Growing.{FromBelow}
use Rattle.thin_slice.specs.Marks.{AreNodesOf, found}
use Rattle.thin_slice.specs.Over.{ByPart}
use Rattle.thin_slice.proofs.over.over_row.Given as goal

abbrev pub invariant-loop-k : goal.invariant-loop-k
invariant-loop-k g l = record {
  nodes : AreNodesOf l.f l.nodes;
  rows : g.R.KnownRows.sound l.rows;
  later : g.R.KnownRows.later l.initial.rows l.rows;
  grown : Grows (found l.initial.nodes) (found l.nodes) (FromBelow (ByPart l.f l.mode l.e l.c.call l.graph l.formals) l.k);
}
