use Rattle.std.proofs.Common.{◌≡◌, take, length}
use Rattle.worklists.specs.Growth.{FromOne}
use Rattle.mod_ref.specs.Rows.{AtSource, RowsGain}
use Rattle.mod_ref.proofs.sources.sources.Given as goal

abbrev pub invariant-loop-effect : goal.invariant-loop-effect
invariant-loop-effect l = record {
  len : length l.rows.items ≡ length l.initial.rows.items;
  gain : RowsGain l.initial.rows.items l.rows.items (λ k. FromOne (λ x. AtSource l.locations x k) (take l.effect-index l.effects));
}
