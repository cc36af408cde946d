use Rattle.fact_form.proofs.Assembled.{keeps}
use Rattle.fact_form.proofs.laws.tables_keep_what_facts_keep.Goals as goal

pub returns : goal.returns
returns c = λ p s mr entries t asked coded system effects tables few.
    keeps p s mr entries t asked coded system (c.constraints_give_the_facts.ensures p s asked system) (λ t write x among. c.static_spots_are_of_static_variables.ensures p s t write x system among) effects tables few
