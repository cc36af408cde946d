use Rattle.std.proofs.Common.{List, sym, subst, ◌∙◌, arith}
use Rattle.std.proofs.lemmas.List.{take_all}
use Rattle.worklists.specs.Growth.{Grows, FromOne}
use Rattle.worklists.proofs.Growing.{Grows-none, Grows-more}
use Rattle.class_form.specs.declared.body.SlotUse.{SlotUse}
use Rattle.constraint_rules.specs.Settings.{place_of}
use Rattle.constraint_rules.specs.Slots.{IsJoinedBy}
use Rattle.constraint_rules.proofs.OfJoins.{joined}
use Rattle.constraint_rules.proofs.values.push_joining.Goals as goal

pub loop-slot_use-init : goal.loop-slot_use-init
loop-slot_use-init c = λ p s names set. Grows-none c.args.rules.now.items _ (λ r f. absurd (omega (arith, f.1.1)))

pub loop-slot_use-preserved : goal.loop-slot_use-preserved
loop-slot_use-preserved c = λ p s names set.
    Grows-more (IsJoinedBy p s names (place_of c.args.x.now) c.args.x.now.body.now) c.items-slot_use-items.result.now c.loop-slot_use.slot_use-index _
    c.args.rules.now.items c.loop-slot_use.rules.items c.push_joining_use.new.rules.items
    c.loop-slot_use-test.true (c.loop-slot_use.invariant p s names set) (c.in_ok-push_joining_use.ensures p s names set)

pub returns : goal.returns
returns c = λ p s names set placed.
    let x = c.args.x.now in
    let items = c.items-slot_use-items.result.now in
    joined p s names set.of.read x.body.now x.point.now x.instr.now c.requires.body.flow.order c.requires.point placed.at c.args.rules.now.items c.loop-slot_use.rules.items
    (subst (λ (ys : List SlotUse). Grows c.args.rules.now.items c.loop-slot_use.rules.items (FromOne (IsJoinedBy p s names (place_of x) x.body.now) ys))
    (take_all c.loop-slot_use.slot_use-index items c.loop-slot_use-test.false ∙ c.items-slot_use-items.ensures) (c.loop-slot_use.invariant p s names set))
