use Rattle.method_graph.proofs.heads.exits_of.Goals as goal

pub returns-clause-members : goal.returns-clause-members
returns-clause-members c = λ x. (λ h. (c.in_ok-list_exits.ensures x).0 ((c.sorted.ensures.same x).0 h), λ h. (c.sorted.ensures.same x).1 ((c.in_ok-list_exits.ensures x).1 h))
