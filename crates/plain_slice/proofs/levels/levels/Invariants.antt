use Rattle.std.proofs.Common.{◌-◌, ◌*◌}
use Rattle.worklists.proofs.Closing.{Closing}
use Rattle.plain_slice.specs.Tables.{IsTable}
use Rattle.plain_slice.specs.Rules.{Follows, Joins}
use Rattle.plain_slice.proofs.Leveling.{IsLevel, HasOwn}
use Rattle.plain_slice.proofs.levels.levels.Given as goal

abbrev pub invariant-loop-n : goal.invariant-loop-n
invariant-loop-n l = record {
  table : IsTable l.size l.marks.items l.pairs.items;
  own : HasOwn l.n l.pairs.items;
  begun : Closing (IsLevel l.edges) (Follows l.edges) (Joins l.edges) 0 l.pairs.items;
}

abbrev pub invariant-loop-next : goal.invariant-loop-next
invariant-loop-next l = record {
  table : IsTable l.size l.marks.items l.pairs.items;
  own : HasOwn l.size l.pairs.items;
  done : Closing (IsLevel l.edges) (Follows l.edges) (Joins l.edges) l.next l.pairs.items;
}

abbrev pub decreases-loop-next : goal.decreases-loop-next
decreases-loop-next l = l.size * l.size - l.next
