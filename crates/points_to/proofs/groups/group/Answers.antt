use Rattle.points_to.proofs.groups.group.Goals as goal

pub returns-clause-groups : goal.returns-clause-groups
returns-clause-groups c = λ k x. (λ h. (c.in_ok-groups.ensures k x).0 ((c.sort_all.ensures.same k.0 x).0 h), λ h. (c.sort_all.ensures.same k.0 x).1 ((c.in_ok-groups.ensures k x).1 h))
