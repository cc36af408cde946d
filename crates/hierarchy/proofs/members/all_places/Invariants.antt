use Rattle.std.proofs.Common.{◌≡◌, length, take}
use Rattle.slicer_ids.specs.Sets.{IsOrderedListOf}
use Rattle.hierarchy.specs.Places.{PlaceBefore, IsPlaceUpTo, count_members}
use Rattle.hierarchy.proofs.members.all_places.Given as goal

abbrev pub invariant-loop-class : goal.invariant-loop-class
invariant-loop-class l = record {
  listed : IsOrderedListOf PlaceBefore l.places.items (IsPlaceUpTo l.fn.kind l.classes l.class 0);
  count : length l.places.items ≡ count_members l.fn.kind (take l.class l.classes);
}
