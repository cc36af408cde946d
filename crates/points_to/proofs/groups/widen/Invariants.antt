use Rattle.std.proofs.Common.{◌≡◌, length, ℕ, ◌+◌, ◌-◌}
use Rattle.points_to.specs.Indexes.{group_of}
use Rattle.points_to.proofs.groups.widen.Given as goal

abbrev pub invariant-loop-alloc : goal.invariant-loop-alloc
invariant-loop-alloc l = (c : ℕ) → group_of l.groups.items c ≡ group_of l.initial.groups.items c

abbrev pub decreases-loop-alloc : goal.decreases-loop-alloc
decreases-loop-alloc l = l.class + 1 - length l.groups.items
