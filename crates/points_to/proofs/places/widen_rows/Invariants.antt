use Rattle.std.proofs.Common.{◌≡◌, None, length, slice_index_or, ℕ, ◌+◌, ◌-◌}
use Rattle.points_to.proofs.places.widen_rows.Given as goal

abbrev pub invariant-loop-rows : goal.invariant-loop-rows
invariant-loop-rows l = (k : ℕ) → slice_index_or l.rows.items k None ≡ slice_index_or l.initial.rows.items k None

abbrev pub decreases-loop-rows : goal.decreases-loop-rows
decreases-loop-rows l = l.number + 1 - length l.rows.items
