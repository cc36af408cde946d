use Rattle.std.proofs.Common.{◌≡◌, Some, sym, ap, ◌∙◌}
use Rattle.std.proofs.lemmas.Bool.{false≢true}
use Rattle.std.proofs.lemmas.Option.{same_Some}
use Rattle.dep_form.specs.declared.rules.Var.{Var}
use Rattle.value_tables.proofs.looking.if_at.Goals as goal

pub returns-then-is_at : goal.returns-then-is_at
returns-then-is_at c = λ x. (λ e. (c.is_at.ensures.0 c.if-is_at.true, same_Some c.args.pair.1 x e), λ h. ap (λ (v : Var). Some v) h.1)

pub returns-else-is_at : goal.returns-else-is_at
returns-else-is_at c = λ x. (λ e. absurd (cc e), λ h. absurd (false≢true (sym c.if-is_at.false ∙ c.is_at.ensures.1 h.0)))
