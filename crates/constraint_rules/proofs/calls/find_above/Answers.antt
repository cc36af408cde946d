use Rattle.std.proofs.Common.{sym}
use Rattle.constraint_rules.specs.Naming.{key_in}
use Rattle.constraint_rules.proofs.MethodNumbers.{special_above, no_super_called}
use Rattle.constraint_rules.proofs.calls.find_above.Goals as goal

pub returns-in-Some : goal.returns-in-Some
returns-in-Some c = λ p n f of is calls finds.
    special_above c.args.h.now p of (key_in c.args.r) n c.args.file.now is f c.in-Some.class.now c.find_method.result (sym c.in-Some.ensures) calls finds c.find_method.ensures

pub returns-in-None : goal.returns-in-None
returns-in-None c = λ p n f of is calls finds. absurd (no_super_called c.args.h.now p of (key_in c.args.r) n c.args.file.now is f (sym c.in-None.ensures) calls)
