use Rattle.std.proofs.Common.{◌-◌, ◌*◌, take}
use Rattle.worklists.proofs.Closing.{Closing}
use Rattle.plain_slice.specs.Tables.{IsTable}
use Rattle.plain_slice.specs.Rules.{Leaves}
use Rattle.plain_slice.proofs.Slicing.{Good, Never, AreThere}
use Rattle.plain_slice.proofs.slices.walk.Given as goal

abbrev pub invariant-loop-seed : goal.invariant-loop-seed
invariant-loop-seed l = record {
  table : IsTable l.size l.marks.items l.pairs.items;
  there : AreThere (take l.seed-index l.seeds) l.pairs.items;
  begun : Closing (Good l.edges l.seeds) (Leaves l.edges l.levels) Never 0 l.pairs.items;
}

abbrev pub invariant-loop-next : goal.invariant-loop-next
invariant-loop-next l = record {
  table : IsTable l.size l.marks.items l.pairs.items;
  there : AreThere l.seeds l.pairs.items;
  done : Closing (Good l.edges l.seeds) (Leaves l.edges l.levels) Never l.next l.pairs.items;
}

abbrev pub decreases-loop-next : goal.decreases-loop-next
decreases-loop-next l = l.size * l.size - l.next
