use Rattle.std.proofs.Common.{◌≡◌, ◌+◌, ◌-◌, ℕ, None, length}
use Rattle.std.specs.Prelude.{slice_index_or}
use Rattle.line_numbers.proofs.filling.grow.Given as goal

abbrev pub invariant-loop-by_pc : goal.invariant-loop-by_pc
invariant-loop-by_pc l = (k : ℕ) → slice_index_or l.by_pc.items k None ≡ slice_index_or l.initial.by_pc.items k None

abbrev pub decreases-loop-by_pc : goal.decreases-loop-by_pc
decreases-loop-by_pc l = l.pc + 1 - length l.by_pc.items
