use Rattle.std.proofs.Common.{◌≡◌, take, length}
use Rattle.worklists.specs.Growth.{Grows, FromOne}
use Rattle.worklist.specs.Worklists.{IsWorklist}
use Rattle.reaching_defs.specs.Frames.{IsThrown}
use Rattle.reaching_defs.proofs.frame.Frame.throw_all.Given as goal

abbrev pub invariant-loop-handler : goal.invariant-loop-handler
invariant-loop-handler l = record {
  size : length l.found.marks.items ≡ length l.initial.found.marks.items;
  set : IsWorklist l.found.marks.items l.found.items.items;
  grown : Grows l.initial.found.items.items l.found.items.items (FromOne (IsThrown l.self l.slot) (take l.handler-index l.handlers));
}
