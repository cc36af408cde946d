use Rattle.std.proofs.Common.{◌≡◌, length, take, Contains}
use Rattle.worklists.specs.Growth.{Grows}
use Rattle.thin_slice.specs.Marks.{AreMarked, found}
use Rattle.thin_slice.proofs.walk.add_all.Given as goal

abbrev pub invariant-loop-seed : goal.invariant-loop-seed
invariant-loop-seed l = record {
  set : AreMarked l.nodes;
  size : length l.nodes.marks.items ≡ length l.initial.nodes.marks.items;
  grown : Grows (found l.initial.nodes) (found l.nodes) (Contains (take l.seed-index l.seeds));
}
