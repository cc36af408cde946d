use Rattle.std.proofs.Common.{◌≡◌, length, ℕ, ◌+◌, ◌-◌}
use Rattle.dep_form.specs.declared.system.System.{System}
use Rattle.points_to.specs.Indexes.{AreMasks}
use Rattle.points_to.proofs.filters.widen_masks.Given as goal

abbrev pub invariant-loop-masks : goal.invariant-loop-masks
invariant-loop-masks l = (s : System) → AreMasks s l.initial.masks.items → AreMasks s l.masks.items

abbrev pub decreases-loop-masks : goal.decreases-loop-masks
decreases-loop-masks l = l.class + 1 - length l.masks.items
