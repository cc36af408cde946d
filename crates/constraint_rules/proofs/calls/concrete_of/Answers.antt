use Rattle.constraint_rules.proofs.MethodNumbers.{concrete_found, none_found}
use Rattle.constraint_rules.proofs.calls.concrete_of.Goals as goal

pub returns-in-Some : goal.returns-in-Some
returns-in-Some c = λ p m of. concrete_found p c.args.found c.in-Some.method m c.concrete.result c.in-Some.is (c.concrete.ensures p m of)

pub returns-in-None : goal.returns-in-None
returns-in-None c = λ p m of. none_found p c.args.found m c.in-None.is
