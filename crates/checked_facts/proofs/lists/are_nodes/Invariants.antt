use Rattle.std.proofs.Common.{◌<◌, ℕ, get_or}
use Rattle.slicer_ids.specs.declared.ids.NodeId.{NodeId}
use Rattle.checked_facts.specs.Parts.{IsOfNodes}
use Rattle.checked_facts.proofs.lists.are_nodes.Given as goal

abbrev pub invariant-loop-x : goal.invariant-loop-x
invariant-loop-x l = (k : ℕ) (d : NodeId) → k < l.x-index → IsOfNodes l.n.nodes (get_or l.nodes k d)
