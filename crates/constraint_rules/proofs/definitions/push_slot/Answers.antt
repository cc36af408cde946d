use Rattle.std.proofs.lemmas.Result.{on_ok_weaker}
use Rattle.constraint_rules.proofs.SlotNumbers.{slot_grown}
use Rattle.constraint_rules.proofs.definitions.push_slot.Goals as goal

pub returns : goal.returns
returns c = λ p s has.
    on_ok_weaker c.push_numbers.result (λ g. slot_grown p s c.args.body.now c.args.pc c.args.slot c.at.result.now c.args.vars.now.items c.push_numbers.new.vars.items
    c.requires.body.reach c.at.ensures g) (c.push_numbers.ensures p s has)
