use Rattle.std.proofs.Common.{◌≡◌, take, length}
use Rattle.worklists.specs.Growth.{Grows, FromOne}
use Rattle.worklist.specs.Worklists.{IsWorklist}
use Rattle.reaching_defs.specs.Frames.{GoesOn}
use Rattle.reaching_defs.proofs.frame.Frame.go_on_all.Given as goal

abbrev pub invariant-loop-pc : goal.invariant-loop-pc
invariant-loop-pc l = record {
  size : length l.found.marks.items ≡ length l.initial.found.marks.items;
  set : IsWorklist l.found.marks.items l.found.items.items;
  grown : Grows l.initial.found.items.items l.found.items.items (FromOne (GoesOn l.self l.point l.slot) (take l.pc-index l.next));
}
