use Rattle.constraint_rules.specs.Naming.{key_in}
use Rattle.constraint_rules.proofs.OfCalls.{signature_found, signature_missed}
use Rattle.constraint_rules.proofs.calls.signature_of.Goals as goal

pub returns-in-Some : goal.returns-in-Some
returns-in-Some c = λ p s names set. signature_found c.args.t.now p s names set (key_in c.args.r) c.in-Some.place c.in-Some.ensures.found

pub returns-in-None : goal.returns-in-None
returns-in-None c = λ p s names set. signature_missed c.args.t.now p s names set (key_in c.args.r) c.in-None.ensures.missed
