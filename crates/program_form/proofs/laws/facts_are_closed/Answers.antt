use Rattle.program_form.proofs.Holding.{closed}
use Rattle.program_form.proofs.laws.facts_are_closed.Goals as goal

pub returns : goal.returns
returns c = λ p f h. closed p f h
