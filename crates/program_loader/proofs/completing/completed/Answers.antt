use Rattle.std.proofs.Common.{rules}
use Rattle.program_loader.proofs.completing.completed.Goals as goal

pub returns-in_err-facts-clause-refused : goal.returns-in_err-facts-clause-refused
returns-in_err-facts-clause-refused c = λ line e p is known. c.facts_of.ensures.refused line (search rules) p is known

pub returns-clause-accepted : goal.returns-clause-accepted
returns-clause-accepted c = c.in_ok-facts.ensures.accepted
