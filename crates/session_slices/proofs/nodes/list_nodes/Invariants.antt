use Rattle.std.proofs.Common.{◌<◌, ◌≤◌, ◌↔◌, Contains}
use Rattle.std.specs.Prelude.{vec_len, vec_capacity}
use Rattle.slicer_ids.specs.declared.ids.NodeId.{NodeId}
use Rattle.dep_form.specs.Slices.{NodesOf}
use Rattle.session_slices.proofs.nodes.list_nodes.Given as goal

abbrev pub invariant-loop-n : goal.invariant-loop-n
invariant-loop-n l = record {
  members : (x : NodeId) → Contains l.nodes.items x ↔ ((x.0 < l.n) × NodesOf l.f.inputs (Contains l.seeds) x);
  len : vec_len l.nodes ≤ l.n;
  room : l.size ≤ vec_capacity l.nodes;
}
