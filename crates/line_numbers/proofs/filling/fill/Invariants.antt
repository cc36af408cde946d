use Rattle.std.proofs.Common.{◌≡◌, ◌<◌, ◌≤◌, ℕ, List, None, length}
use Rattle.std.specs.Prelude.{slice_index_or}
use Rattle.line_numbers.specs.LineTables.{AreLasts, IsLineAt, IsLineBelow}
use Rattle.line_numbers.proofs.filling.fill.Given as goal

abbrev pub invariant-loop-pc : goal.invariant-loop-pc
invariant-loop-pc l = record {
  size : length l.by_pc.items ≡ length l.initial.by_pc.items;
  rest : (k : ℕ) → l.pc ≤ k → slice_index_or l.by_pc.items k None ≡ slice_index_or l.initial.by_pc.items k None;
  line : (lines : List (ℕ × ℕ)) → AreLasts lines l.initial.by_pc.items → IsLineBelow lines l.pc l.line;
  filled : (lines : List (ℕ × ℕ)) → AreLasts lines l.initial.by_pc.items → (k : ℕ) → k < l.pc → IsLineAt lines k (slice_index_or l.by_pc.items k None);
}
