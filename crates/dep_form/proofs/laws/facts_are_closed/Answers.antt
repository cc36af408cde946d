use Rattle.dep_form.proofs.Holding.{closed}
use Rattle.dep_form.proofs.laws.facts_are_closed.Goals as goal

pub returns : goal.returns
returns c = λ s f h. closed s f h
