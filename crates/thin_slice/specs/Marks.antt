-- Nodes found once each, with marks.
use Rattle.std.specs.Prelude.{◌≡◌, ◌<◌, ◌+◌, ℕ, Bool, true, false, not, List, length, take, All, Contains, slice_index_or, count_by}
use Rattle.slicer_ids.specs.declared.ids.NodeId.{NodeId}
use Rattle.dep_form.specs.declared.facts.Facts.{Facts}
use Rattle.dep_form.specs.Firsts.{node_count}
use Rattle.thin_slice.specs.declared.marked.MarkedNodes.{MarkedNodes}

abbrev pub is_marked : List Bool → ℕ → Bool
is_marked marks n = slice_index_or marks n false

-- what was found
abbrev pub found : MarkedNodes → List NodeId
found s = take s.count s.order.items

-- the list has each marked node once
pub record IsMarkedList (marks : List Bool) (nodes : List NodeId) : Type 0 where
  pub below : All (λ (n : NodeId). n.0 < length marks) nodes
  pub marked : (n : NodeId) → is_marked marks n.0 ≡ true → Contains nodes n
  pub listed : All (λ (n : NodeId). is_marked marks n.0 ≡ true) nodes
  pub room : count_by not marks + length nodes ≡ length marks

-- the nodes found are those marked, and there is room for all
pub record AreMarked (s : MarkedNodes) : Type 0 where
  pub room : length s.order.items ≡ length s.marks.items
  pub set : IsMarkedList s.marks.items (found s)
  pub count : length (found s) ≡ s.count

-- they are nodes of the facts, with a mark for each
pub record AreNodesOf (f : Facts) (s : MarkedNodes) : Type 0 where
  pub set : AreMarked s
  pub size : length s.marks.items ≡ node_count f.inputs
