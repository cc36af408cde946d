use Rattle.std.proofs.Common.{take}
use Rattle.worklists.specs.Growth.{Grows, FromOne, Meets}
use Rattle.plain_slice.specs.Tables.{IsTable}
use Rattle.plain_slice.specs.Rules.{Joins}
use Rattle.plain_slice.proofs.levels.meet.Given as goal

abbrev pub invariant-loop-k : goal.invariant-loop-k
invariant-loop-k l = record {
  table : IsTable l.size l.marks.items l.pairs.items;
  grown : Grows l.initial.pairs.items l.pairs.items (FromOne (Meets (Joins l.edges) l.one) (take l.k l.initial.pairs.items));
}
