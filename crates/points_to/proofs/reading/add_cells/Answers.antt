use Rattle.std.proofs.Common.{subst}
use Rattle.points_to.proofs.Listed.{get_or_itself}
use Rattle.points_to.proofs.Cells.{AreCellsWith, first_cell, one_cell, last_cell}
use Rattle.std.proofs.lemmas.List.{take_all}
use Rattle.points_to.proofs.reading.add_cells.Goals as goal

pub loop-number-init : goal.loop-number-init
loop-number-init c = first_cell c.args.found.now c.args.object c.args.field c.args.cells.now.items c.requires.before

pub loop-number-preserved : goal.loop-number-preserved
loop-number-preserved c = one_cell c.args.found.now c.args.object c.args.field c.args.numbers.now c.loop-number.number-index _ c.loop-number.cells.items c.push.new.self.items c.requires.numbers.order c.loop-number-test.true (get_or_itself c.args.numbers.now c.loop-number.number-index _ c.loop-number-test.true) c.in_ok-push.ensures.items c.loop-number.invariant

pub returns : goal.returns
returns c = last_cell c.args.found.now c.args.object c.args.field c.args.numbers.now c.loop-number.cells.items c.requires.numbers (subst (λ xs. AreCellsWith c.args.found.now c.args.object c.args.field xs c.loop-number.cells.items) (take_all c.loop-number.number-index c.args.numbers.now c.loop-number-test.false) c.loop-number.invariant)
