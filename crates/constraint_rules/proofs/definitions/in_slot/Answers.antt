use Rattle.constraint_rules.specs.Slots.{IsNumberIn}
use Rattle.constraint_rules.proofs.SlotNumbers.{from_nothing}
use Rattle.constraint_rules.proofs.definitions.in_slot.Goals as goal

pub returns : goal.returns
returns c = λ p s has.
    from_nothing (IsNumberIn p s c.args.body.now c.args.pc c.args.slot) c.new-vars.result.items c.push_slot.new.vars.items c.new-vars.ensures.items (c.in_ok-push_slot.ensures p s has)
