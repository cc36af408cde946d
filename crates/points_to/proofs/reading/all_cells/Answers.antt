use Rattle.std.proofs.Common.{arith}
use Rattle.points_to.proofs.Cells.{all_cells, no_cells}
use Rattle.points_to.proofs.reading.all_cells.Goals as goal

pub loop-object-init : goal.loop-object-init
loop-object-init c = no_cells c.args.found.now c.new-cells.result.items c.new-cells.ensures.items

pub returns : goal.returns
returns c = all_cells c.args.found.now c.loop-object.object c.loop-object.cells.items (omega (arith, c.loop-object.auto.object-end, c.loop-object-test.false, c.len-object-end.ensures)) c.loop-object.invariant
