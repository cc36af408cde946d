use Rattle.std.proofs.Common.{take}
use Rattle.worklists.specs.Growth.{Grows, FromOne}
use Rattle.plain_slice.specs.Tables.{IsTable}
use Rattle.plain_slice.specs.Rules.{FollowsOne}
use Rattle.plain_slice.proofs.levels.follow.Given as goal

abbrev pub invariant-loop-edge : goal.invariant-loop-edge
invariant-loop-edge l = record {
  table : IsTable l.size l.marks.items l.pairs.items;
  grown : Grows l.initial.pairs.items l.pairs.items (FromOne (FollowsOne l.from) (take l.edge-index l.edges));
}
