use Rattle.std.proofs.Common.{◌<◌, ℕ, get_or}
use Rattle.slicer_ids.specs.declared.ids.NodeId.{NodeId}
use Rattle.dep_form.specs.Firsts.{node_count}
use Rattle.slice_bench.proofs.counts.are_nodes.Given as goal

abbrev pub invariant-loop-n : goal.invariant-loop-n
invariant-loop-n l = (k : ℕ) (d : NodeId) → k < l.n-index → (get_or l.nodes k d).0 < node_count l.f.inputs
