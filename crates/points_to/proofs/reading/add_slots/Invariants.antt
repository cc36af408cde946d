use Rattle.points_to.proofs.Cells.{AreCellsOf}
use Rattle.points_to.proofs.reading.add_slots.Given as goal

abbrev pub invariant-loop-slot : goal.invariant-loop-slot
invariant-loop-slot l = AreCellsOf l.found l.object.0 l.slots l.slot-index l.cells.items
