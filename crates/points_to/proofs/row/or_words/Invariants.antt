use Rattle.std.proofs.Common.{◌≡◌, ◌<◌, ◌≤◌, ℕ, false, length, slice_index}
use Rattle.std.specs.Prelude.{bit_or}
use Rattle.points_to.proofs.row.or_words.Given as goal

abbrev pub invariant-loop-k : goal.invariant-loop-k
invariant-loop-k l = record {
  len : length l.to.items ≡ length l.initial.to.items;
  done : (i : ℕ) → i < l.k → slice_index l.to.items i ≡ bit_or (slice_index l.initial.to.items i) (slice_index l.from i);
  rest : (i : ℕ) → l.k ≤ i → slice_index l.to.items i ≡ slice_index l.initial.to.items i;
  quiet : l.changed ≡ false → l.to.items ≡ l.initial.to.items;
}
