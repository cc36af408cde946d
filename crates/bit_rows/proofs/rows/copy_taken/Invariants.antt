use Rattle.std.proofs.Common.{◌≡◌, ◌<◌, ◌+◌, ℕ, length, get_or}
use Rattle.std.specs.Prelude.{bit_and}
use Rattle.std.specs.Int.{bit_not, w64}
use Rattle.bit_rows.proofs.rows.copy_taken.Given as goal

abbrev pub invariant-loop-k : goal.invariant-loop-k
invariant-loop-k l = record {
  len : length l.into.items ≡ l.k;
  words : (j : ℕ) → j < l.k → get_or l.into.items j 0 ≡ bit_and (get_or l.got (l.at + j) 0) (bit_not w64 (get_or l.todo (l.at + j) 0));
}
