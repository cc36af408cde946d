use Rattle.std.proofs.Common.{◌≡◌, ℕ, ◌+◌, ◌<◌, ◌≤◌, ◌⊎◌, bit_or}
use Rattle.std.specs.Prelude.{slice_index}
use Rattle.method_graph.specs.Flows.{Adds}
use Rattle.method_graph.proofs.flow.join_rows.Given as goal

abbrev pub invariant-loop-k : goal.invariant-loop-k
invariant-loop-k l = record {
  adds : Adds l.initial.words.items l.words.items l.changed;
  joined : (k : ℕ) → k < l.k → slice_index l.words.items (l.to + k) ≡ bit_or (slice_index l.initial.words.items (l.to + k)) (slice_index l.initial.words.items (l.from + k));
  kept : (k : ℕ) → ((k < l.to) ⊎ (l.to + l.k ≤ k)) → slice_index l.words.items k ≡ slice_index l.initial.words.items k;
}
