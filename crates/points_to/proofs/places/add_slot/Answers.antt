use Rattle.std.proofs.Common.{◌∙◌, sym, subst, length, arith}
use Rattle.std.specs.Prelude.{insert}
use Rattle.points_to.specs.States.{AddsSlot}
use Rattle.points_to.proofs.Slots.{slot_added_at}
use Rattle.points_to.proofs.places.add_slot.Goals as goal

pub returns : goal.returns
returns c = slot_added_at c.args.slots.now.items c.as_slice.result.now c.insert.new.self.items c.place_for-at.result c.args.slot c.as_slice.ensures.value c.requires.sorted c.requires.fresh c.place_for-at.ensures.bound c.place_for-at.ensures.before c.place_for-at.ensures.after c.in_ok-insert.ensures.items
