use Rattle.std.proofs.lemmas.Result.{on_ok_weaker}
use Rattle.worklists.proofs.Growing.{Grows-none, Grows-same}
use Rattle.constraint_rules.specs.Slots.{IsNumberIn, IsNumberOfUse}
use Rattle.constraint_rules.proofs.definitions.push_use.Goals as goal

pub returns-then-slot_use-operand : goal.returns-then-slot_use-operand
returns-then-slot_use-operand c = λ p s has.
    on_ok_weaker c.push_slot.result (λ g. Grows-same c.args.vars.now.items c.push_slot.new.vars.items (IsNumberIn p s c.args.body.now c.args.pc c.args.slot_use.now.slot)
    (IsNumberOfUse p s c.args.body.now c.args.pc c.args.operand c.args.slot_use.now) (λ x h. (c.if-slot_use-operand.true, h)) (λ x h. h.1) g) (c.push_slot.ensures p s has)

pub returns-else-slot_use-operand : goal.returns-else-slot_use-operand
returns-else-slot_use-operand c = λ p s has.
    Grows-none c.args.vars.now.items (IsNumberOfUse p s c.args.body.now c.args.pc c.args.operand c.args.slot_use.now) (λ x h. c.if-slot_use-operand.false h.0)
