use Rattle.std.proofs.Common.{◌≡◌, ◌+◌, length}
use Rattle.slicer_ids.specs.Sets.{IsOrderedListOf}
use Rattle.hierarchy.specs.Places.{PlaceBefore, IsPlaceUpTo}
use Rattle.hierarchy.proofs.members.push_class.Given as goal

abbrev pub invariant-loop-i : goal.invariant-loop-i
invariant-loop-i l = record {
  listed : IsOrderedListOf PlaceBefore l.places.items (IsPlaceUpTo l.fn.kind l.classes l.class l.i);
  count : length l.places.items ≡ length l.initial.places.items + l.i;
}
