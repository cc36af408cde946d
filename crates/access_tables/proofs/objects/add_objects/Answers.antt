use Rattle.std.proofs.Common.{List, subst}
use Rattle.class_form.specs.declared.body.SlotUse.{SlotUse}
use Rattle.mod_ref.specs.Gains.{Gains}
use Rattle.mod_ref.proofs.Gaining.{gains_first, gains_more, gains_all}
use Rattle.worklists.specs.Growth.{FromOne}
use Rattle.access_tables.specs.Objects.{IsObjectEdge}
use Rattle.access_tables.proofs.objects.add_objects.Goals as goal

pub loop-slot_use-init : goal.loop-slot_use-init
loop-slot_use-init c = gains_first (IsObjectEdge c.args.scene.now c.args.point.now) c.items-slot_use-items.result.now c.args.edges.now.items

pub loop-slot_use-preserved : goal.loop-slot_use-preserved
loop-slot_use-preserved c =
    gains_more (IsObjectEdge c.args.scene.now c.args.point.now) c.items-slot_use-items.result.now c.loop-slot_use.slot_use-index _ c.args.edges.now.items c.loop-slot_use.edges.items c.add_object.new.edges.items
    c.loop-slot_use-test.true c.loop-slot_use.invariant c.in_ok-add_object.ensures

pub returns : goal.returns
returns c = subst (λ (us : List SlotUse). Gains c.args.edges.now.items c.loop-slot_use.edges.items (FromOne (IsObjectEdge c.args.scene.now c.args.point.now) us)) c.items-slot_use-items.ensures
    (gains_all (IsObjectEdge c.args.scene.now c.args.point.now) c.items-slot_use-items.result.now c.loop-slot_use.slot_use-index c.args.edges.now.items c.loop-slot_use.edges.items c.loop-slot_use-test.false c.loop-slot_use.invariant)
