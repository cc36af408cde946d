use Rattle.std.proofs.Common.{◌≡◌, take, length}
use Rattle.worklists.specs.Growth.{FromOne, Grows}
use Rattle.worklist.specs.Worklists.{IsWorklist}
use Rattle.slicer_ids.specs.declared.ids.MethodId.{MethodId}
use Rattle.mod_ref.proofs.leading.add_all.Given as goal

abbrev pub invariant-loop-m : goal.invariant-loop-m
invariant-loop-m l = record {
  size : length l.found.marks.items ≡ length l.initial.found.marks.items;
  set : IsWorklist l.found.marks.items l.found.items.items;
  grown : Grows l.initial.found.items.items l.found.items.items (FromOne (λ (m : MethodId) n. n ≡ m.0) (take l.m-index l.methods));
}
