use Rattle.std.proofs.Common.{◌≡◌, ◌<◌, ℕ, length}
use Rattle.std.specs.Prelude.{slice_index}
use Rattle.tabulate.specs.States.{IsWordFound}
use Rattle.tabulate.proofs.table_rows.row_of.Given as goal

abbrev pub invariant-loop-word : goal.invariant-loop-word
invariant-loop-word l = record {
  len : length l.row.items ≡ l.word;
  words : (k : ℕ) → k < l.word → IsWordFound l.f l.found.items l.method.first.0 l.formals l.number k (slice_index l.row.items k);
}
