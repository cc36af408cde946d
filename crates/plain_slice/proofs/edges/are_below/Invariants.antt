use Rattle.std.proofs.Common.{◌<◌, ℕ}
use Rattle.std.specs.Prelude.{slice_index_or}
use Rattle.dep_form.specs.declared.node.Edge.{Edge}
use Rattle.plain_slice.proofs.edges.are_below.Given as goal

abbrev pub invariant-loop-edge : goal.invariant-loop-edge
invariant-loop-edge l = (k : ℕ) (d : Edge) → k < l.edge-index → ((slice_index_or l.edges k d).from.0 < l.size) × ((slice_index_or l.edges k d).to.0 < l.size)
