use Rattle.checked_facts.proofs.nodes.is_in.Goals as goal

pub returns-in-Some : goal.returns-in-Some
returns-in-Some c = λ t. (c.in-Some._node, c.in-Some.ensures)
