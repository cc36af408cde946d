use Rattle.std.proofs.Common.{◌↔◌}
use Rattle.std.proofs.Common.{length, ◌≡◌, ◌<◌, ℕ, Contains}
use Rattle.points_to.specs.declared.groups.Select.{Select}
use Rattle.points_to.specs.Indexes.{group_of}
use Rattle.points_to.proofs.Grouping.{Sorted}
use Rattle.points_to.proofs.groups.sort_all.Given as goal

abbrev pub invariant-loop-at : goal.invariant-loop-at
invariant-loop-at l = record {
  len : length l.groups.items ≡ length l.initial.groups.items;
  same : (c : ℕ) (x : Select) → Contains (group_of l.groups.items c) x ↔ Contains (group_of l.initial.groups.items c) x;
  sorted : (c : ℕ) → c < l.at → Sorted (group_of l.groups.items c);
}
