use Rattle.std.proofs.Common.{◌≡◌, length, ℕ, ◌+◌, ◌-◌}
use Rattle.points_to.specs.Bits.{row_of}
use Rattle.points_to.proofs.filters.widen.Given as goal

abbrev pub invariant-loop-alloc : goal.invariant-loop-alloc
invariant-loop-alloc l = (c : ℕ) → row_of l.rows.items c ≡ row_of l.initial.rows.items c

abbrev pub decreases-loop-alloc : goal.decreases-loop-alloc
decreases-loop-alloc l = l.number + 1 - length l.rows.items
