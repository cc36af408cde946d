use Rattle.std.proofs.Common.{take}
use Rattle.worklists.specs.Growth.{Grows, FromOne}
use Rattle.plain_slice.specs.Tables.{IsTable}
use Rattle.plain_slice.specs.Rules.{JoinsBack}
use Rattle.plain_slice.proofs.levels.join.Given as goal

abbrev pub invariant-loop-back : goal.invariant-loop-back
invariant-loop-back l = record {
  table : IsTable l.size l.marks.items l.pairs.items;
  grown : Grows l.initial.pairs.items l.pairs.items (FromOne (JoinsBack l.edges l.outer l.inner) (take l.back-index l.edges));
}
