use Rattle.std.proofs.Common.{take}
use Rattle.worklists.specs.Growth.{Grows, FromOne}
use Rattle.plain_slice.specs.Tables.{IsTable}
use Rattle.plain_slice.specs.Rules.{JoinsOne}
use Rattle.plain_slice.proofs.levels.join_back.Given as goal

abbrev pub invariant-loop-into : goal.invariant-loop-into
invariant-loop-into l = record {
  table : IsTable l.size l.marks.items l.pairs.items;
  grown : Grows l.initial.pairs.items l.pairs.items (FromOne (JoinsOne l.outer l.inner l.back) (take l.into-index l.edges));
}
