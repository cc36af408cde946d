use Rattle.method_facts.proofs.entries.entered.Goals as goal

pub returns-then-is_same : goal.returns-then-is_same
returns-then-is_same c = λ t. (λ e. (c.is_same.ensures.0 c.if-is_same.true, (c.target_of.ensures t).0 e), λ h. (c.target_of.ensures t).1 h.1)
