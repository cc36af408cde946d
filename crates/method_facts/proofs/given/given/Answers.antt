use Rattle.method_facts.proofs.given.given.Goals as goal

pub returns-then-is_same : goal.returns-then-is_same
returns-then-is_same c = λ x. (λ e. let w = (c.given_by.ensures x).0 e in (w.0, c.is_same.ensures.0 c.if-is_same.true, w.1), λ h. (c.given_by.ensures x).1 (h.0, h.2))
