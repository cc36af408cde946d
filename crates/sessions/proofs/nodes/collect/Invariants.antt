use Rattle.std.proofs.Common.{◌<◌, ◌↔◌, Contains}
use Rattle.slicer_ids.specs.declared.ids.NodeId.{NodeId}
use Rattle.slicer_ids.specs.declared.ids.Statement.{Statement}
use Rattle.dep_form.specs.Inputs.{BelongsTo}
use Rattle.dep_form.specs.Slices.{Slice}
use Rattle.widening.specs.Widened.{seeds_of, expansions_of}
use Rattle.sessions.proofs.nodes.collect.Given as goal

abbrev pub invariant-loop-n : goal.invariant-loop-n
invariant-loop-n l =
    (s : Statement) → Contains l.found.items s ↔ ((n : NodeId) × (n.0 < l.n) × (Slice l.f.inputs (Contains (expansions_of l.wide)) (Contains (seeds_of l.wide)) n × BelongsTo l.f.inputs n s))
