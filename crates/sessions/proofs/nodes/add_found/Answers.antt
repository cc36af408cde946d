use Rattle.std.proofs.Common.{refl, inl, inr}
use Rattle.std.proofs.lemmas.Bool.{false≢true}
use Rattle.sessions.proofs.nodes.add_found.Goals as goal

pub has-requires : goal.has-requires
has-requires c = record { node = (c.args.f.now, c.requires.wide, c.requires.node) }

pub returns-then-not-has : goal.returns-then-not-has
returns-then-not-has c = λ s. (λ h. inl h, λ h. elim h [ inl o ↦ o | inr p ↦ absurd (false≢true ((c.if-not-has.ensures c.args.f.now c.requires.wide).1 p.0)) ])

pub returns : goal.returns
returns c = λ s.
    let m = c.in_ok-add_statement.ensures s in (
      λ h. elim (m.0 h) [ inl o ↦ inl o | inr b ↦ inr ((c.if-not-has.ensures c.args.f.now c.requires.wide).0 refl, b) ],
      λ h. m.1 (elim h [ inl o ↦ inl o | inr p ↦ inr p.1 ]),
    )
