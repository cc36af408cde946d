use Rattle.points_to.specs.Solved.{AreCellsUpTo}
use Rattle.points_to.proofs.reading.all_cells.Given as goal

abbrev pub invariant-loop-object : goal.invariant-loop-object
invariant-loop-object l = AreCellsUpTo l.found l.object 0 l.cells.items
