use Rattle.std.proofs.lemmas.Result.{on_ok_weaker}
use Rattle.mod_ref.proofs.Gaining.{gains_same}
use Rattle.worklists.specs.Growth.{FromOne}
use Rattle.value_tables.specs.Values.{DefHas, SlotHas}
use Rattle.value_tables.proofs.Gathered.{slot_has}
use Rattle.value_tables.proofs.operands.add_slot.Goals as goal

pub returns : goal.returns
returns c =
    let x = c.args.x.now in
    on_ok_weaker c.add_defs.result
    (λ g. gains_same c.args.sites.now.items c.add_defs.new.sites.items (FromOne (DefHas x) c.at.result.now) (SlotHas x c.args.pc c.args.slot) (slot_has x c.args.pc c.args.slot c.at.result.now c.requires.reach c.at.ensures) g) c.add_defs.ensures
