use Rattle.script.proofs.Telling.{says_some}
use Rattle.script.proofs.Deciding.{says_one}
use Rattle.script.proofs.laws.each_line_says_one.Goals as goal

pub returns-clause-some : goal.returns-clause-some
returns-clause-some c = says_some

pub returns-clause-one : goal.returns-clause-one
returns-clause-one c = says_one
