use Rattle.std.proofs.Common.{◌≡◌, ℕ, [], length}
use Rattle.mod_ref.specs.Rows.{row_of}
use Rattle.mod_ref.proofs.rows.no_rows.Given as goal

abbrev pub invariant-loop-made : goal.invariant-loop-made
invariant-loop-made l = record {
  len : length l.rows.items ≡ l._made;
  none : (k : ℕ) → row_of l.rows.items k ≡ [];
}
