use Rattle.std.proofs.Common.{◌≤◌}
use Rattle.worklists.specs.Growth.{Grows}
use Rattle.worklists.proofs.Growing.{FromBelow}
use Rattle.thin_slice.specs.Marks.{AreNodesOf, found}
use Rattle.thin_slice.specs.Steps.{StartsFrom}
use Rattle.thin_slice.proofs.over.starts.Given as goal

abbrev pub invariant-loop-k : goal.invariant-loop-k
invariant-loop-k l = record {
  nodes : AreNodesOf l.f l.nodes;
  from : l.low ≤ l.k;
  grown : Grows (found l.initial.nodes) (found l.nodes) (FromBelow (StartsFrom l.c l.low l.edges) l.k);
}
