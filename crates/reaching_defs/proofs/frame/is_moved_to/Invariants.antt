use Rattle.std.proofs.Common.{ℕ, take, Contains}
use Rattle.reaching_defs.proofs.frame.is_moved_to.Given as goal

abbrev pub invariant-loop-to : goal.invariant-loop-to
invariant-loop-to l = (from : ℕ) → Contains (take l.to-index l.moves) (from, l.slot) → ⊥
