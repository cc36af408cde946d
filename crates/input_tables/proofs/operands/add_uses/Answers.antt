use Rattle.input_tables.specs.Edges.{IsUseEdge}
use Rattle.mod_ref.proofs.Gaining.{gains_first, gains_more, gains_all}
use Rattle.std.proofs.Common.{List, subst}
use Rattle.class_form.specs.declared.body.SlotUse.{SlotUse}
use Rattle.mod_ref.specs.Gains.{Gains}
use Rattle.worklists.specs.Growth.{FromOne}
use Rattle.input_tables.proofs.operands.add_uses.Goals as goal

pub loop-slot_use-init : goal.loop-slot_use-init
loop-slot_use-init c = gains_first (IsUseEdge c.args.ground.now.points.now c.args.ground.now.first c.args.ground.now.row.now c.args.body.now.shape c.args.point.now) c.items-slot_use-items.result.now c.args.edges.now.items

pub loop-slot_use-preserved : goal.loop-slot_use-preserved
loop-slot_use-preserved c = gains_more (IsUseEdge c.args.ground.now.points.now c.args.ground.now.first c.args.ground.now.row.now c.args.body.now.shape c.args.point.now) c.items-slot_use-items.result.now c.loop-slot_use.slot_use-index _ c.args.edges.now.items c.loop-slot_use.edges.items c.add_use.new.edges.items c.loop-slot_use-test.true c.loop-slot_use.invariant c.in_ok-add_use.ensures

pub returns : goal.returns
returns c = subst (λ (us : List SlotUse). Gains c.args.edges.now.items c.loop-slot_use.edges.items (FromOne (IsUseEdge c.args.ground.now.points.now c.args.ground.now.first c.args.ground.now.row.now c.args.body.now.shape c.args.point.now) us)) c.items-slot_use-items.ensures
    (gains_all (IsUseEdge c.args.ground.now.points.now c.args.ground.now.first c.args.ground.now.row.now c.args.body.now.shape c.args.point.now) c.items-slot_use-items.result.now c.loop-slot_use.slot_use-index c.args.edges.now.items c.loop-slot_use.edges.items c.loop-slot_use-test.false c.loop-slot_use.invariant)
