use Rattle.std.proofs.Common.{length, ◌≡◌, ◌<◌, ℕ}
use Rattle.slicer_ids.specs.declared.ids.MethodId.{MethodId}
use Rattle.std.proofs.Common.{get_or}
use Rattle.points_to.proofs.reading.as_methods.Given as goal

abbrev pub invariant-loop-number : goal.invariant-loop-number
invariant-loop-number l = record {
  len : length l.methods.items ≡ l.number-index;
  each : (k : ℕ) (d : MethodId) → k < l.number-index → (get_or l.methods.items k d).0 ≡ get_or l.numbers k d.0;
}
