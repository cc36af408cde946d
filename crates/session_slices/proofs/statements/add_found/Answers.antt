use Rattle.std.proofs.Common.{refl, inl, inr}
use Rattle.session_slices.proofs.statements.add_found.Goals as goal

pub returns-then-has-clause-members : goal.returns-then-has-clause-members
returns-then-has-clause-members c = λ s.
    let m = c.add_statement.ensures.members s in
    (λ h. elim (m.0 h) [ inl o ↦ inl o | inr b ↦ inr (c.if-has.ensures.0 refl, b) ], λ h. m.1 (elim h [ inl o ↦ inl o | inr p ↦ inr p.1 ]))
