use Rattle.std.proofs.Common.{subst, sym}
use Rattle.std.proofs.Common.{get_or}
use Rattle.points_to.proofs.Listed.{get_or_itself}
use Rattle.points_to.proofs.Cells.{no_slots, to_slot, one_slot, all_slots}
use Rattle.points_to.proofs.Slots.{Sorted}
use Rattle.points_to.proofs.reading.add_slots.Goals as goal

pub loop-slot-init : goal.loop-slot-init
loop-slot-init c = no_slots c.args.found.now c.args.object.0 c.args.slots.now c.args.cells.now.items c.requires.before

pub add_field-requires-clause-before : goal.add_field-requires-clause-before
add_field-requires-clause-before c = to_slot c.args.found.now c.args.object.0 c.args.slots.now c.loop-slot.slot-index (get_or c.args.slots.now c.loop-slot.slot-index _) c.requires.slots (subst Sorted (sym c.requires.slots) (c.requires.shape.sorted c.args.object.0)) c.loop-slot.cells.items c.loop-slot-test.true (get_or_itself c.args.slots.now c.loop-slot.slot-index _ c.loop-slot-test.true) c.loop-slot.invariant

pub loop-slot-preserved : goal.loop-slot-preserved
loop-slot-preserved c = one_slot c.args.found.now c.args.object.0 c.args.slots.now c.loop-slot.slot-index (get_or c.args.slots.now c.loop-slot.slot-index _) c.requires.slots (subst Sorted (sym c.requires.slots) (c.requires.shape.sorted c.args.object.0)) c.loop-slot.cells.items c.add_field.new.cells.items c.loop-slot-test.true (get_or_itself c.args.slots.now c.loop-slot.slot-index _ c.loop-slot-test.true) c.loop-slot.invariant c.in_ok-add_field.ensures

pub returns : goal.returns
returns c = all_slots c.args.found.now c.args.object.0 c.args.slots.now c.loop-slot.slot-index (record { field = record { 0 = 0 }; row = 0 }) c.requires.slots (subst Sorted (sym c.requires.slots) (c.requires.shape.sorted c.args.object.0)) c.loop-slot.cells.items c.loop-slot-test.false c.loop-slot.invariant
