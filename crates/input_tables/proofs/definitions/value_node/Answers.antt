use Rattle.std.proofs.Common.{inl, inr, refl, sym, ◌∙◌}
use Rattle.std.proofs.lemmas.Bool.{false≢true}
use Rattle.input_tables.proofs.definitions.value_node.Goals as goal

pub returns-then-is_call : goal.returns-then-is_call
returns-then-is_call c = inr (c.is_call.ensures.0 c.if-is_call.true, refl)

pub returns-else-is_call : goal.returns-else-is_call
returns-else-is_call c = inl (λ h. false≢true (sym c.if-is_call.false ∙ c.is_call.ensures.1 h), refl)
