use Rattle.fact_form.proofs.Assembled.{counts}
use Rattle.fact_form.proofs.laws.rows_count_the_nodes.Goals as goal

pub returns : goal.returns
returns c = λ p s mr entries rows asked coded system effects entered are.
    counts p s mr entries rows asked coded system (c.constraints_give_the_facts.ensures p s asked system) (λ t write x among. c.static_spots_are_of_static_variables.ensures p s t write x system among) effects entered are
