use Rattle.std.proofs.Common.{take}
use Rattle.points_to.proofs.Cells.{AreCellsWith}
use Rattle.points_to.proofs.reading.add_cells.Given as goal

abbrev pub invariant-loop-number : goal.invariant-loop-number
invariant-loop-number l = AreCellsWith l.found l.object l.field (take l.number-index l.numbers) l.cells.items
