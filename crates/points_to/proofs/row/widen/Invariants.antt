use Rattle.std.proofs.Common.{◌≡◌, ◌≤◌, ℕ, length, slice_index, max, ◌-◌}
use Rattle.points_to.proofs.row.widen.Given as goal

abbrev pub invariant-loop-row : goal.invariant-loop-row
invariant-loop-row l = record {
  words : (i : ℕ) → slice_index l.row.items i ≡ slice_index l.initial.row.items i;
  len : length l.initial.row.items ≤ length l.row.items;
  most : length l.row.items ≤ max (length l.initial.row.items) l.len;
}

abbrev pub decreases-loop-row : goal.decreases-loop-row
decreases-loop-row l = l.len - length l.row.items
