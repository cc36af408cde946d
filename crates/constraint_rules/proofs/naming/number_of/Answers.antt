use Rattle.constraint_rules.proofs.naming.number_of.Goals as goal

pub returns-in-None-clause-state : goal.returns-in-None-clause-state
returns-in-None-clause-state c = λ p s names set none. c.state.ensures p s names set
