use Rattle.std.proofs.Common.{refl}
use Rattle.std.proofs.lemmas.Bool.{false≢true}
use Rattle.session_form.specs.Places.{no_statement}
use Rattle.session_places.proofs.naming.statement_in.Goals as goal

pub returns-then-not-is_statement : goal.returns-then-not-is_statement
returns-then-not-is_statement c = no_statement c.args.method c.requires (λ h. false≢true (c.if-not-is_statement.ensures.1 h))

pub returns : goal.returns
returns c = (c.requires, refl, c.if-not-is_statement.ensures.0 refl)
