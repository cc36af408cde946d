use Rattle.std.proofs.Common.{take}
use Rattle.worklists.specs.Growth.{Grows, FromOne}
use Rattle.plain_slice.specs.Tables.{IsTable}
use Rattle.plain_slice.specs.Rules.{JumpsOne}
use Rattle.plain_slice.proofs.slices.jumps.Given as goal

abbrev pub invariant-loop-level : goal.invariant-loop-level
invariant-loop-level l = record {
  table : IsTable l.size l.marks.items l.pairs.items;
  grown : Grows l.initial.pairs.items l.pairs.items (FromOne (JumpsOne l.from) (take l.level-index l.levels));
}
