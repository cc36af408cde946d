use Rattle.std.proofs.Common.{◌≡◌, ◌≤◌, ◌++◌, ◌-◌, ◌⊎◌, List, Contains, length, take}
use Rattle.slicer_ids.specs.declared.ids.NodeId.{NodeId}
use Rattle.dep_form.specs.Firsts.{node_count}
use Rattle.dep_form.specs.Slices.{ModeEdges}
use Rattle.thin_slice.specs.Marks.{AreNodesOf, found}
use Rattle.thin_slice.specs.Needs.{IsServed}
use Rattle.thin_slice.specs.Walks.{IsDown}
use Rattle.thin_slice.proofs.phases.walk_down.Given as goal

abbrev pub invariant-loop-next : goal.invariant-loop-next
invariant-loop-next g l = record {
  nodes : AreNodesOf l.f l.nodes;
  within : l.next ≤ length (found l.nodes);
  rows : g.R.KnownRows.sound l.rows;
  later : g.R.KnownRows.later l.initial.rows l.rows;
  front : (more : List NodeId) × (found l.nodes ≡ found l.initial.nodes ++ more);
  walking : (seeds : List NodeId) → IsDown (ModeEdges l.f.inputs l.mode) seeds l.ups l.initial.next (found l.initial.nodes) → IsDown (ModeEdges l.f.inputs l.mode) seeds l.ups l.next (found l.nodes);
  served : (n : NodeId) → Contains (take l.ups (found l.nodes)) n ⊎ Contains (take l.next (found l.nodes)) n → IsServed l.f (g.G.SeenGraphs.has_seen l.graphs) (λ e. g.R.KnownRows.known l.rows e l.mode) n;
}

abbrev pub decreases-loop-next : goal.decreases-loop-next
decreases-loop-next g l = node_count l.f.inputs - l.next
