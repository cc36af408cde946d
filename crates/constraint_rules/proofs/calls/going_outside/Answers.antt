use Rattle.std.proofs.Common.{◌⊎◌, sym, ◌∙◌}
use Rattle.std.proofs.lemmas.Bool.{false≢true}
use Rattle.class_form.specs.Opcodes.{IsStaticCall, IsSpecialCall}
use Rattle.constraint_rules.proofs.Ones.{none_of, one_same}
use Rattle.constraint_rules.proofs.OfKind.{one_of_kind, none_of_kind}
use Rattle.constraint_rules.proofs.OfCalls.{outside_one}
use Rattle.constraint_rules.proofs.calls.going_outside.Goals as goal

pub returns-then-not-is_direct : goal.returns-then-not-is_direct
returns-then-not-is_direct c = λ p s names set placed.
    none_of_kind c.args.t.now c.args.x.now p s names set placed (λ op. IsStaticCall op ⊎ IsSpecialCall op) _ (λ is. false≢true (sym c.if-not-is_direct.true ∙ c.is_direct.ensures.1 is))

pub returns-then-not-is_not_found : goal.returns-then-not-is_not_found
returns-then-not-is_not_found c = λ p s names set placed. none_of _ (λ r h. false≢true (sym c.if-not-is_not_found.true ∙ (c.is_not_found.ensures p s names set placed).1 h.1.0))

pub returns : goal.returns
returns c = λ p s names set placed.
    let none = (c.is_not_found.ensures p s names set placed).0 c.if-not-is_not_found.false in
    one_of_kind c.args.t.now c.args.x.now p s names set placed (λ op. IsStaticCall op ⊎ IsSpecialCall op) _ c.outside_of.result (c.is_direct.ensures.0 c.if-not-is_direct.false)
    (one_same _ _ c.outside_of.result (λ r h. (none, h)) (λ r h. h.1) (outside_one _ _ c.outside_of.result (c.call_number.ensures p s names set) c.outside_of.ensures))
