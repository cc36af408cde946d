use Rattle.std.proofs.Common.{◌≡◌, take, length}
use Rattle.worklists.specs.Growth.{Grows, FromOne}
use Rattle.worklist.specs.Worklists.{IsWorklist}
use Rattle.reaching_defs.specs.Starts.{HasHandler}
use Rattle.reaching_defs.proofs.starts.find_all_handlers.Given as goal

abbrev pub invariant-loop-point : goal.invariant-loop-point
invariant-loop-point l = record {
  size : length l.found.marks.items ≡ length l.initial.found.marks.items;
  set : IsWorklist l.found.marks.items l.found.items.items;
  grown : Grows l.initial.found.items.items l.found.items.items (FromOne HasHandler (take l.point-index l.points));
}
