use Rattle.std.proofs.Common.{subst}
use Rattle.std.specs.Prelude.{IsTrue, ◌↔◌}
use Rattle.dep_form.specs.LookUps.{IsStatementOf}
use Rattle.dep_form.proofs.facts.Facts.is_statement.Goals as goal

pub returns : goal.returns
returns c = subst (λ ms. IsTrue c.has_statement.result ↔ IsStatementOf ms c.args.s) c.items.ensures c.has_statement.ensures
