use Rattle.std.proofs.Common.{◌<◌, ℕ}
use Rattle.std.specs.Prelude.{slice_index_or}
use Rattle.slicer_ids.specs.declared.ids.NodeId.{NodeId}
use Rattle.plain_slice.proofs.edges.are_seeds.Given as goal

abbrev pub invariant-loop-seed : goal.invariant-loop-seed
invariant-loop-seed l = (k : ℕ) (d : NodeId) → k < l.seed-index → (slice_index_or l.seeds k d).0 < l.size
