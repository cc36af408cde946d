use Rattle.std.proofs.Common.{◌∙◌, sym, arith}
use Rattle.points_to.proofs.Slots.{found_here, found_nowhere}
use Rattle.points_to.proofs.places.find.Goals as goal

pub returns-in-Some : goal.returns-in-Some
returns-in-Some c = c.row_if.ensures ∙ sym (found_here c.args.slots.now c.args.field c.place_for-at.result c.in-Some.slot.now c.requires c.place_for-at.ensures.before c.place_for-at.ensures.after (grind (arith, c.in-Some.ensures.lookup.0)) c.in-Some.ensures.lookup.1)

pub returns-in-None : goal.returns-in-None
returns-in-None c = sym (found_nowhere c.args.slots.now c.args.field c.place_for-at.result c.place_for-at.ensures.before (grind (arith, c.in-None.ensures.lookup.0)))
