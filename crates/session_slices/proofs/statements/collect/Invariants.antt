use Rattle.std.proofs.Common.{◌<◌, ◌≤◌, ◌↔◌, Contains}
use Rattle.std.specs.Prelude.{vec_len, vec_capacity}
use Rattle.slicer_ids.specs.declared.ids.NodeId.{NodeId}
use Rattle.slicer_ids.specs.declared.ids.Statement.{Statement}
use Rattle.dep_form.specs.Inputs.{BelongsTo}
use Rattle.thin_slice.specs.Walks.{nodes_of}
use Rattle.session_slices.proofs.statements.collect.Given as goal

abbrev pub invariant-loop-n : goal.invariant-loop-n
invariant-loop-n l = record {
  members : (s : Statement) → Contains l.found.items s ↔ ((n : NodeId) × (n.0 < l.n) × (Contains (nodes_of l.walk) n × BelongsTo l.f.inputs n s));
  len : vec_len l.found ≤ l.n;
  room : l.size ≤ vec_capacity l.found;
}
