use Rattle.std.proofs.Common.{List, subst}
use Rattle.class_form.specs.declared.body.SlotUse.{SlotUse}
use Rattle.mod_ref.specs.Gains.{Gains}
use Rattle.mod_ref.proofs.Gaining.{gains_first, gains_more, gains_all}
use Rattle.worklists.specs.Growth.{FromOne}
use Rattle.value_tables.specs.Values.{UseHas}
use Rattle.value_tables.proofs.operands.add_operand.Goals as goal

pub loop-slot_use-init : goal.loop-slot_use-init
loop-slot_use-init c = gains_first (UseHas c.args.x.now c.args.point.now.pc c.args.i) c.items-slot_use-items.result.now c.args.sites.now.items

pub loop-slot_use-preserved : goal.loop-slot_use-preserved
loop-slot_use-preserved c =
    gains_more (UseHas c.args.x.now c.args.point.now.pc c.args.i) c.items-slot_use-items.result.now c.loop-slot_use.slot_use-index _ c.args.sites.now.items c.loop-slot_use.sites.items c.add_use.new.sites.items
    c.loop-slot_use-test.true c.loop-slot_use.invariant c.in_ok-add_use.ensures

pub returns : goal.returns
returns c = subst (λ (us : List SlotUse). Gains c.args.sites.now.items c.loop-slot_use.sites.items (FromOne (UseHas c.args.x.now c.args.point.now.pc c.args.i) us)) c.items-slot_use-items.ensures
    (gains_all (UseHas c.args.x.now c.args.point.now.pc c.args.i) c.items-slot_use-items.result.now c.loop-slot_use.slot_use-index c.args.sites.now.items c.loop-slot_use.sites.items c.loop-slot_use-test.false c.loop-slot_use.invariant)
