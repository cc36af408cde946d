use Rattle.std.proofs.Common.{sym, ◌∙◌}
use Rattle.std.proofs.lemmas.Bool.{false≢true}
use Rattle.class_form.specs.Opcodes.{IsCall}
use Rattle.constraint_rules.proofs.OfKind.{one_of_kind, none_of_kind}
use Rattle.constraint_rules.proofs.FormParts.{direct_one}
use Rattle.constraint_rules.proofs.calls.calling.Goals as goal

pub returns-then-not-is_call : goal.returns-then-not-is_call
returns-then-not-is_call c = λ p s names set placed. none_of_kind c.args.t.now c.args.x.now p s names set placed IsCall _ (λ is. false≢true (sym c.if-not-is_call.true ∙ c.is_call.ensures.1 is))

pub returns : goal.returns
returns c = λ p s names set placed.
    one_of_kind c.args.t.now c.args.x.now p s names set placed IsCall _ c.direct_of.result (c.is_call.ensures.0 c.if-not-is_call.false)
    (direct_one _ _ _ _ c.direct_of.result (c.call_number.ensures p s names set) (c.in_ok-found.ensures p s names set placed) c.direct_of.ensures)
