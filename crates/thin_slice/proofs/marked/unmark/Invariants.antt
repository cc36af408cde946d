use Rattle.std.proofs.Common.{◌≡◌, true, length, take, Contains}
use Rattle.slicer_ids.specs.declared.ids.NodeId.{NodeId}
use Rattle.thin_slice.specs.Marks.{is_marked}
use Rattle.thin_slice.proofs.marked.unmark.Given as goal

abbrev pub invariant-loop-node : goal.invariant-loop-node
invariant-loop-node l = record {
  size : length l.marks.items ≡ length l.initial.marks.items;
  left : (n : NodeId) → is_marked l.marks.items n.0 ≡ true → (is_marked l.initial.marks.items n.0 ≡ true) × (Contains (take l.node-index l.nodes) n → ⊥);
}
