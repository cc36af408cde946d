use Rattle.std.proofs.Common.{◌≡◌, ◌<◌, ℕ, length, slice_index, bit_and}
use Rattle.points_to.proofs.row.meet.Given as goal

abbrev pub invariant-loop-k : goal.invariant-loop-k
invariant-loop-k l = record {
  len : length l.both.items ≡ l.k;
  words : (i : ℕ) → i < l.k → slice_index l.both.items i ≡ bit_and (slice_index l.a i) (slice_index l.b i);
}
