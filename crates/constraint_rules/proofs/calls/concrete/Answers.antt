use Rattle.std.proofs.Common.{sym, ◌∙◌}
use Rattle.std.proofs.lemmas.Bool.{false≢true}
use Rattle.constraint_rules.proofs.MethodNumbers.{abstract_one, concrete_one}
use Rattle.constraint_rules.proofs.calls.concrete.Goals as goal

pub returns-then-is_abstract : goal.returns-then-is_abstract
returns-then-is_abstract c = λ p m of. abstract_one p c.args.method m ((c.is_abstract.ensures p of).0 c.if-is_abstract.true)

pub returns : goal.returns
returns c = λ p m of. concrete_one p c.args.method m (λ h. false≢true (sym c.if-is_abstract.false ∙ (c.is_abstract.ensures p of).1 h))
