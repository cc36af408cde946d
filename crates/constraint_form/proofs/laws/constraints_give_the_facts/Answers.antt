use Rattle.constraint_form.proofs.Tying.{tie}
use Rattle.constraint_form.proofs.laws.constraints_give_the_facts.Goals as goal

pub returns : goal.returns
returns c = λ p s asked tables. tie p s tables.0 asked tables.1
