use Rattle.std.proofs.Common.{take}
use Rattle.dep_form.specs.Slices.{ModeEdges}
use Rattle.worklists.specs.Growth.{Grows, FromOne}
use Rattle.thin_slice.specs.Marks.{AreNodesOf, found}
use Rattle.thin_slice.specs.Steps.{PassesOver}
use Rattle.thin_slice.proofs.follow.pass_edges.Given as goal

abbrev pub invariant-loop-edge : goal.invariant-loop-edge
invariant-loop-edge g l = record {
  nodes : AreNodesOf l.f l.nodes;
  rows : g.R.KnownRows.sound l.rows;
  later : g.R.KnownRows.later l.initial.rows l.rows;
  grown : Grows (found l.initial.nodes) (found l.nodes) (FromOne (PassesOver (ModeEdges l.f.inputs l.mode)) (take l.edge-index l.edges));
}
