use Rattle.std.proofs.Common.{take}
use Rattle.worklists.specs.Growth.{Grows, FromOne}
use Rattle.thin_slice.specs.Marks.{AreNodesOf, found}
use Rattle.thin_slice.specs.Steps.{FollowsOne}
use Rattle.thin_slice.proofs.follow.follow_edges.Given as goal

abbrev pub invariant-loop-edge : goal.invariant-loop-edge
invariant-loop-edge l = record {
  nodes : AreNodesOf l.f l.nodes;
  grown : Grows (found l.initial.nodes) (found l.nodes) (FromOne (FollowsOne l.mode l.phase) (take l.edge-index l.edges));
}
