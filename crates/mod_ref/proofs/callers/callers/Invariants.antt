use Rattle.std.proofs.Common.{◌≡◌, length}
use Rattle.worklists.proofs.Growing.{FromBelow}
use Rattle.mod_ref.specs.Rows.{AtCaller, RowsGain}
use Rattle.mod_ref.proofs.callers.callers.Given as goal

abbrev pub invariant-loop-number : goal.invariant-loop-number
invariant-loop-number l = record {
  len : length l.rows.items ≡ length l.initial.rows.items;
  gain : RowsGain l.initial.rows.items l.rows.items (λ n. FromBelow (λ c. AtCaller l.system (record { 0 = c }) n) l.number);
}
