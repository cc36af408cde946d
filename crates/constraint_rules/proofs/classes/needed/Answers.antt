use Rattle.std.proofs.Common.{sym, ◌∙◌}
use Rattle.std.proofs.lemmas.Bool.{false≢true}
use Rattle.constraint_rules.proofs.Needing.{needed_new, needed_static, needed_call, needed_none}
use Rattle.constraint_rules.proofs.classes.needed.Goals as goal

pub returns-then-is_new : goal.returns-then-is_new
returns-then-is_new c = λ p s names set placed.
    needed_new c.args.t.now c.args.x.now p s names set placed c.class_made.result (c.is_new.ensures.0 c.if-is_new.true) (c.class_made.ensures p s names set placed)

pub returns-then-is_static_field : goal.returns-then-is_static_field
returns-then-is_static_field c = λ p s names set placed.
    needed_static c.args.t.now c.args.x.now p s names set placed c.class_of_static.result (c.is_static_field.ensures.0 c.if-is_static_field.true) (c.class_of_static.ensures p s names set placed)

pub returns-then-is_static_call : goal.returns-then-is_static_call
returns-then-is_static_call c = λ p s names set placed.
    needed_call c.args.t.now c.args.x.now p s names set placed c.class_called.result (c.is_static_call.ensures.0 c.if-is_static_call.true) (c.class_called.ensures p s names set placed)

pub returns : goal.returns
returns c = λ p s names set placed.
    needed_none c.args.t.now c.args.x.now p s names set placed (λ is. false≢true (sym c.if-is_new.false ∙ c.is_new.ensures.1 is))
    (λ is. false≢true (sym c.if-is_static_field.false ∙ c.is_static_field.ensures.1 is)) (λ is. false≢true (sym c.if-is_static_call.false ∙ c.is_static_call.ensures.1 is))
