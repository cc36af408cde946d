use Rattle.std.proofs.Common.{sym, ◌∙◌}
use Rattle.std.proofs.lemmas.Bool.{false≢true}
use Rattle.constraint_rules.proofs.Ones.{none_of, one_same}
use Rattle.constraint_rules.proofs.FormParts.{copy_one}
use Rattle.constraint_rules.proofs.handlers.leaving.Goals as goal

pub returns-then-not-may_leave : goal.returns-then-not-may_leave
returns-then-not-may_leave c = λ p s names set placed. none_of _ (λ r h. false≢true (sym c.if-not-may_leave.true ∙ (c.may_leave.ensures p placed).1 h.0))

pub returns : goal.returns
returns c = λ p s names set placed.
    one_same _ _ c.copy_of.result (λ r h. ((c.may_leave.ensures p placed).0 c.if-not-may_leave.false, h)) (λ r h. h.1)
    (copy_one _ _ _ _ _ c.copy_of.result (c.raised.ensures p s names set placed) (c.thrown_by-to.ensures p s set.has) c.copy_of.ensures)
