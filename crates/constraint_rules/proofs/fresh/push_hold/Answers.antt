use Rattle.std.proofs.Common.{arith}
use Rattle.std.proofs.lemmas.Result.{on_ok_weaker}
use Rattle.constraint_rules.proofs.OfNumbers.{hold_grown}
use Rattle.constraint_rules.proofs.fresh.push_hold.Goals as goal

pub returns : goal.returns
returns c = on_ok_weaker c.push.result (λ g. hold_grown c.args.first c.args.k c.in-Some.outer c.in-Some-checked_add.inner c.args.rules.now.items c.push.new.rules.items
    (omega (arith, c.in-Some.ensures)) (omega (arith, c.in-Some-checked_add.ensures)) g) c.push.ensures
