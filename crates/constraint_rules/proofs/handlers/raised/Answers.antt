use Rattle.std.proofs.Common.{sym, ◌∙◌, subst}
use Rattle.std.proofs.lemmas.Bool.{false≢true}
use Rattle.slicer_ids.specs.declared.ids.Statement.{Statement}
use Rattle.program_form.specs.Facts.{ExceptionOf}
use Rattle.program_form.specs.Systems.{VariableNumber}
use Rattle.constraint_rules.specs.One.{IsOne}
use Rattle.constraint_rules.proofs.OfThrown.{thrown_one, called_one, none_raised}
use Rattle.constraint_rules.proofs.handlers.raised.Goals as goal

pub returns-then-is_throw : goal.returns-then-is_throw
returns-then-is_throw c = λ p s names set placed. thrown_one c.args.t.now c.args.x.now p s names set placed c.object.result (c.is_throw.ensures.0 c.if-is_throw.true) (c.object.ensures p s names set placed)

pub returns-then-is_call : goal.returns-then-is_call
returns-then-is_call c = λ p s names set placed.
    called_one c.args.t.now c.args.x.now p s names set placed c.exception_of.result (λ is. false≢true (sym c.if-is_throw.false ∙ c.is_throw.ensures.1 is)) (c.is_call.ensures.0 c.if-is_call.true)
    (subst (λ (z : Statement). IsOne (λ v. VariableNumber p s (ExceptionOf z) v) c.exception_of.result) c.statement_of.ensures (c.exception_of.ensures p s set.has))

pub returns : goal.returns
returns c = λ p s names set placed.
    none_raised c.args.t.now c.args.x.now p s names set placed (λ is. false≢true (sym c.if-is_throw.false ∙ c.is_throw.ensures.1 is)) (λ is. false≢true (sym c.if-is_call.false ∙ c.is_call.ensures.1 is))
