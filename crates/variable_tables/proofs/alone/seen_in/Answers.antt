use Rattle.std.proofs.Common.{List, sym, subst, ◌∙◌, take}
use Rattle.std.proofs.lemmas.List.{take_more, take_all}
use Rattle.class_form.specs.declared.body.SlotUse.{SlotUse}
use Rattle.variable_tables.proofs.SeenDefs.{IsSeenBy, seen_none, seen_step, holds_in}
use Rattle.variable_tables.proofs.alone.seen_in.Goals as goal

pub loop-slot_use-init : goal.loop-slot_use-init
loop-slot_use-init c = seen_none c.args.body.now.shape c.args.point.now.pc c.args.operand

pub loop-slot_use-preserved : goal.loop-slot_use-preserved
loop-slot_use-preserved c =
    let i = c.loop-slot_use.slot_use-index in
    let us = c.items-slot_use-items.result.now in
    let s = c.args.body.now.shape in
    let pc = c.args.point.now.pc in
    subst (λ (zs : List SlotUse). IsSeenBy s pc c.args.operand zs c.with_use-seen.result) (sym (take_more us i _ c.loop-slot_use-test.true))
    (seen_step s pc c.args.operand (take i us) _ c.loop-slot_use.seen c.with_use-seen.result c.with_use-seen.ensures c.loop-slot_use.invariant)

pub returns : goal.returns
returns c =
    let s = c.args.body.now.shape in
    let p = c.args.point.now in
    let all = take_all c.loop-slot_use.slot_use-index c.items-slot_use-items.result.now c.loop-slot_use-test.false ∙ c.items-slot_use-items.ensures in
    let (ds, is, holds) = subst (λ (zs : List SlotUse). IsSeenBy s p.pc c.args.operand zs c.loop-slot_use.seen) all c.loop-slot_use.invariant in
    (ds, is, λ d. let by = holds_in s c.requires.body.flow.order p c.args.operand d c.requires.point in (λ h. by.0 ((holds d).0 h), λ h. (holds d).1 (by.1 h)))
