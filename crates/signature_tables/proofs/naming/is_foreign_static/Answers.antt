use Rattle.signature_tables.proofs.naming.is_foreign_static.Goals as goal

pub returns-then-is_static : goal.returns-then-is_static
returns-then-is_static c = λ p of. (λ t. (c.is_static.ensures.0 c.if-is_static.true, (c.is_foreign.ensures p of).0 t), λ x. (c.is_foreign.ensures p of).1 x.1)
