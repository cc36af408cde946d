use Rattle.std.proofs.Common.{take}
use Rattle.worklists.specs.Growth.{FromOne}
use Rattle.mod_ref.specs.Gains.{Gains}
use Rattle.access_tables.specs.Objects.{IsObjectEdge}
use Rattle.access_tables.proofs.objects.add_objects.Given as goal

abbrev pub invariant-loop-slot_use : goal.invariant-loop-slot_use
invariant-loop-slot_use l = Gains l.initial.edges.items l.edges.items (FromOne (IsObjectEdge l.scene l.point) (take l.slot_use-index l.slot_use-items))
