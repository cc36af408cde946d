use Rattle.std.proofs.Common.{◌≡◌, take, length}
use Rattle.worklists.specs.Growth.{FromOne}
use Rattle.mod_ref.specs.Rows.{RowsGain}
use Rattle.mod_ref.proofs.callers.add_targets.Given as goal

abbrev pub invariant-loop-target : goal.invariant-loop-target
invariant-loop-target l = record {
  len : length l.rows.items ≡ length l.initial.rows.items;
  gain : RowsGain l.initial.rows.items l.rows.items (λ n. FromOne (λ t m. (t.0 ≡ n) × (m ≡ l.caller)) (take l.target-index l.targets));
}
