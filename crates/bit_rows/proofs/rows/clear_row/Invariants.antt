use Rattle.std.proofs.Common.{ℕ, ◌≡◌, length}
use Rattle.std.specs.Prelude.{◌↔◌}
use Rattle.bit_rows.specs.Words.{IsIn, Outside}
use Rattle.bit_rows.proofs.rows.clear_row.Given as goal

abbrev pub invariant-loop-k : goal.invariant-loop-k
invariant-loop-k l = record {
  bits : (i : ℕ) → IsIn l.words i ↔ IsIn l.initial.words i × Outside l.at l.k i;
  len : length l.words ≡ length l.initial.words;
}
