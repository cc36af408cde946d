use Rattle.constraint_rules.proofs.ByStatement.{to_statement, from_statement}
use Rattle.constraint_rules.proofs.laws.constraints_are_those_of_statements.Goals as goal

pub returns : goal.returns
returns c = λ p s names m r. (to_statement p s names m r, from_statement p s names m r)
