use Rattle.std.proofs.Common.{◌≡◌, length, take, []}
use Rattle.worklists.specs.Growth.{Grows, FromOne}
use Rattle.worklist.specs.Worklists.{IsWorklist}
use Rattle.reaching_defs.specs.Facts.{IsFactOf}
use Rattle.reaching_defs.proofs.definitions.facts_of.Given as goal

abbrev pub invariant-loop-start : goal.invariant-loop-start
invariant-loop-start l = record {
  size : length l.found.marks.items ≡ length l.initial.found.marks.items;
  set : IsWorklist l.found.marks.items l.found.items.items;
  none : l.found.items.items ≡ [];
  grown : Grows [] l.facts.items (FromOne (IsFactOf l.method.shape.now) (take l.start-index l.starts));
}
