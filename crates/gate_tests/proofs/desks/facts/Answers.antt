use Rattle.gate_tests.proofs.desks.facts.Goals as goal

pub returns-in-Ok : goal.returns-in-Ok
returns-in-Ok c =
    let l = c.in-Ok.ensures.accepted in
    c.facts_list_each_statement.ensures.listed l.0 l.1.numbers c.in-Ok.facts l.1.facts
