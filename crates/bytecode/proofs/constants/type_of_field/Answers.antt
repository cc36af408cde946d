use Rattle.bytecode.proofs.constants.type_of_field.Goals as goal

pub returns-in-None-clause-right : goal.returns-in-None-clause-right
returns-in-None-clause-right c = λ p. (rw c.in-None.is at c.in_ok-field.ensures.right) p.0 p.1
