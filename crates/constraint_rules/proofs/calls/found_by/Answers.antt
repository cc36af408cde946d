use Rattle.std.proofs.Common.{sym, ◌∙◌}
use Rattle.std.proofs.lemmas.Bool.{false≢true}
use Rattle.std.proofs.lemmas.Result.{IfOk-weaker}
use Rattle.constraint_rules.specs.Naming.{key_in}
use Rattle.constraint_rules.proofs.OfTargets.{called_static, called_special, called_other}
use Rattle.constraint_rules.proofs.calls.found_by.Goals as goal

pub returns-then-is_static_call : goal.returns-then-is_static_call
returns-then-is_static_call c = λ p s names set placed named.
    called_static c.args.t.now c.args.x.now p s names set placed (key_in c.args.r) c.find.result named (c.is_static_call.ensures.0 c.if-is_static_call.true) (c.find.ensures p set.of)

pub returns-then-is_special_call : goal.returns-then-is_special_call
returns-then-is_special_call c = IfOk-weaker c.special_at.result _ _ (λ o told p s names set placed named.
    called_special c.args.t.now c.args.x.now p s names set placed (key_in c.args.r) o named (c.is_special_call.ensures.0 c.if-is_special_call.true) (told p s names set placed)) c.special_at.ensures

pub returns : goal.returns
returns c = λ p s names set placed named.
    called_other c.args.t.now c.args.x.now p s names set placed (λ is. false≢true (sym c.if-is_static_call.false ∙ c.is_static_call.ensures.1 is)) (λ is. false≢true (sym c.if-is_special_call.false ∙ c.is_special_call.ensures.1 is))
