use Rattle.std.proofs.Common.{◌≡◌, ℕ, length, take, Some}
use Rattle.std.specs.Prelude.{slice_get, sum_by}
use Rattle.edge_tables.specs.Rows.{size_of}
use Rattle.edge_tables.proofs.rows.firsts_of.Given as goal

abbrev pub invariant-loop-row : goal.invariant-loop-row
invariant-loop-row l = record {
  each : length l.firsts.items ≡ l.row-index;
  are : (m n : ℕ) → slice_get l.firsts.items m ≡ Some n → n ≡ sum_by size_of (take m l.rows);
  next : l.next ≡ sum_by size_of (take l.row-index l.rows);
}
