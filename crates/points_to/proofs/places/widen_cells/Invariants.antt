use Rattle.std.proofs.Common.{◌≡◌, ◌<◌, ◌≤◌, ◌^◌, length, ℕ, ◌+◌, ◌-◌}
use Rattle.points_to.specs.States.{slots_in}
use Rattle.points_to.proofs.places.widen_cells.Given as goal

abbrev pub invariant-loop-alloc : goal.invariant-loop-alloc
invariant-loop-alloc l = record {
  same : (o : ℕ) → slots_in l.cells.items o ≡ slots_in l.initial.cells.items o;
  few : l.site < 2 ^ 32 → length l.initial.cells.items ≤ 2 ^ 32 → length l.cells.items ≤ 2 ^ 32;
}

abbrev pub decreases-loop-alloc : goal.decreases-loop-alloc
decreases-loop-alloc l = l.site + 1 - length l.cells.items
