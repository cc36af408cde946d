use Rattle.std.proofs.Common.{◌≡◌, length, take}
use Rattle.worklists.specs.Growth.{Grows, FromOne}
use Rattle.worklist.specs.Worklists.{IsWorklist}
use Rattle.reaching_defs.specs.Frames.{place, IsNumberOf}
use Rattle.reaching_defs.proofs.spread.begin_value.Given as goal

abbrev pub invariant-loop-target : goal.invariant-loop-target
invariant-loop-target l = record {
  size : length l.found.marks.items ≡ length l.initial.found.marks.items;
  set : IsWorklist l.found.marks.items l.found.items.items;
  grown : Grows l.initial.found.items.items l.found.items.items (FromOne (λ q n. IsNumberOf l.frame (place q l.slot) n) (take l.target-index l.next));
}
