use Rattle.std.proofs.Common.{◌<◌, ℕ}
use Rattle.std.proofs.Common.{get_or}
use Rattle.points_to.proofs.checked.are_arguments.Given as goal

abbrev pub invariant-loop-argument : goal.invariant-loop-argument
invariant-loop-argument l = (k : ℕ) (d : ℕ) → k < l.argument-index → (λ (i : ℕ). i < l.count) (get_or l.arguments k d)
