use Rattle.std.proofs.Common.{sym, ◌∙◌}
use Rattle.std.proofs.lemmas.Bool.{false≢true}
use Rattle.std.proofs.lemmas.Result.{on_ok_weaker}
use Rattle.mod_ref.proofs.Gaining.{gains_none, gains_same}
use Rattle.value_tables.specs.Values.{SlotHas, UseHas}
use Rattle.value_tables.proofs.operands.add_use.Goals as goal

pub returns-then-is_of : goal.returns-then-is_of
returns-then-is_of c =
    let x = c.args.x.now in
    on_ok_weaker c.add_slot.result
    (λ g. gains_same c.args.sites.now.items c.add_slot.new.sites.items (SlotHas x c.args.pc c.args.slot_use.now.slot) (UseHas x c.args.pc c.args.i c.args.slot_use.now)
    (λ h. (λ has. (c.is_of.ensures.0 c.if-is_of.true, has), λ w. w.1)) g) c.add_slot.ensures

pub returns-else-is_of : goal.returns-else-is_of
returns-else-is_of c = gains_none c.args.sites.now.items (UseHas c.args.x.now c.args.pc c.args.i c.args.slot_use.now) (λ h w. false≢true (sym c.if-is_of.false ∙ c.is_of.ensures.1 w.0))
