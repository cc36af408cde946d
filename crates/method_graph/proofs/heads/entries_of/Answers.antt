use Rattle.method_graph.proofs.heads.entries_of.Goals as goal

pub returns-clause-members : goal.returns-clause-members
returns-clause-members c = λ x. (λ h. (c.in_ok-list_entries.ensures x).0 ((c.sorted.ensures.same x).0 h), λ h. (c.sorted.ensures.same x).1 ((c.in_ok-list_entries.ensures x).1 h))
