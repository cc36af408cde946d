use Rattle.std.proofs.Common.{◌≡◌, take, length}
use Rattle.worklists.specs.Growth.{Grows, FromOne}
use Rattle.worklist.specs.Worklists.{IsWorklist}
use Rattle.reaching_defs.specs.Frames.{IsMoved}
use Rattle.reaching_defs.proofs.frame.Frame.follow_all.Given as goal

abbrev pub invariant-loop-from : goal.invariant-loop-from
invariant-loop-from l = record {
  size : length l.found.marks.items ≡ length l.initial.found.marks.items;
  set : IsWorklist l.found.marks.items l.found.items.items;
  grown : Grows l.initial.found.items.items l.found.items.items (FromOne (IsMoved l.self l.slot l.pc) (take l.from-index l.moves));
}
