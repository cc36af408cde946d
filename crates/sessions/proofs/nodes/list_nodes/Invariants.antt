use Rattle.std.proofs.Common.{◌<◌, ◌↔◌, Contains}
use Rattle.slicer_ids.specs.declared.ids.NodeId.{NodeId}
use Rattle.dep_form.specs.Slices.{NodesOf}
use Rattle.sessions.proofs.nodes.list_nodes.Given as goal

abbrev pub invariant-loop-n : goal.invariant-loop-n
invariant-loop-n l = (x : NodeId) → Contains l.nodes.items x ↔ ((x.0 < l.n) × NodesOf l.f.inputs (Contains l.seeds) x)
