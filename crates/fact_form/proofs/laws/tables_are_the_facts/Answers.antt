use Rattle.fact_form.proofs.Assembled.{whole}
use Rattle.fact_form.proofs.laws.tables_are_the_facts.Goals as goal

pub returns : goal.returns
returns c = λ p s mr f asked coded system effects tables.
    whole p s mr f asked coded system (c.constraints_give_the_facts.ensures p s asked system) (λ t write x among. c.static_spots_are_of_static_variables.ensures p s t write x system among) effects tables
