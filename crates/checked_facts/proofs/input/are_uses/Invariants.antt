use Rattle.std.proofs.Common.{◌<◌, ℕ, get_or}
use Rattle.slicer_ids.specs.declared.ids.NodeId.{NodeId}
use Rattle.slicer_ids.specs.declared.ids.LocId.{LocId}
use Rattle.checked_facts.specs.InputParts.{IsUse}
use Rattle.checked_facts.proofs.input.are_uses.Given as goal

abbrev pub invariant-loop-item : goal.invariant-loop-item
invariant-loop-item l = (k : ℕ) (d : (ℕ × NodeId × LocId)) → k < l.item-index → IsUse l.parts (get_or l.uses k d)
