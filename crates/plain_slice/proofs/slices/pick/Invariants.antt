use Rattle.std.proofs.Common.{◌≡◌, take}
use Rattle.slicer_ids.specs.declared.ids.NodeId.{NodeId}
use Rattle.worklists.specs.Growth.{Grows, FromOne}
use Rattle.plain_slice.specs.declared.table.Pair.{Pair}
use Rattle.plain_slice.specs.Tables.{pair}
use Rattle.plain_slice.proofs.slices.pick.Given as goal

abbrev pub invariant-loop-one : goal.invariant-loop-one
invariant-loop-one l = Grows l.initial.nodes.items l.nodes.items (FromOne (λ (p : Pair) (n : NodeId). p ≡ pair n.0 1) (take l.one-index l.found))
