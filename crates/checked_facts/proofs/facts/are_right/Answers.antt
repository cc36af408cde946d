use Rattle.checked_facts.proofs.facts.are_right.Goals as goal

pub returns-clause-counted : goal.returns-clause-counted
returns-clause-counted c = λ t. c.are_counted.ensures c.if-not-are_counted.false

pub returns-clause-order : goal.returns-clause-order
returns-clause-order c = λ t. c.are_in_order.ensures c.if-not-are_in_order.false

pub returns-clause-lists : goal.returns-clause-lists
returns-clause-lists c = λ t. c.are_lists_within.ensures c.if-not-are_lists_within.false

pub returns-clause-exits : goal.returns-clause-exits
returns-clause-exits c = λ t. c.are_exits_right.ensures c.if-not-are_exits_right.false

pub returns-clause-edges : goal.returns-clause-edges
returns-clause-edges c = c.are_edges_right.ensures
