use Rattle.std.proofs.Common.{List, subst, ◌∙◌, arith}
use Rattle.std.proofs.lemmas.List.{take_all}
use Rattle.worklists.specs.Growth.{Grows, FromOne}
use Rattle.worklists.proofs.Growing.{Grows-none, Grows-more}
use Rattle.class_form.specs.declared.body.SlotUse.{SlotUse}
use Rattle.constraint_rules.specs.Slots.{IsNumberOfUse}
use Rattle.constraint_rules.proofs.definitions.push_uses.Goals as goal

pub loop-slot_use-init : goal.loop-slot_use-init
loop-slot_use-init c = λ p s has. Grows-none c.args.vars.now.items _ (λ x f. absurd (omega (arith, f.1.1)))

pub loop-slot_use-preserved : goal.loop-slot_use-preserved
loop-slot_use-preserved c = λ p s has.
    Grows-more (IsNumberOfUse p s c.args.body.now c.args.point.now.pc c.args.operand) c.items-slot_use-items.result.now c.loop-slot_use.slot_use-index _
    c.args.vars.now.items c.loop-slot_use.vars.items c.push_use.new.vars.items
    c.loop-slot_use-test.true (c.loop-slot_use.invariant p s has) (c.in_ok-push_use.ensures p s has)

pub returns : goal.returns
returns c = λ p s has.
    subst (λ (ys : List SlotUse). Grows c.args.vars.now.items c.loop-slot_use.vars.items (FromOne (IsNumberOfUse p s c.args.body.now c.args.point.now.pc c.args.operand) ys))
    (take_all c.loop-slot_use.slot_use-index c.items-slot_use-items.result.now c.loop-slot_use-test.false ∙ c.items-slot_use-items.ensures) (c.loop-slot_use.invariant p s has)
