use Rattle.std.proofs.Common.{sym, ◌∙◌}
use Rattle.std.proofs.lemmas.Bool.{false≢true}
use Rattle.class_form.specs.Opcodes.{IsGetStatic}
use Rattle.constraint_rules.proofs.OfKind.{one_of_kind, none_of_kind}
use Rattle.constraint_rules.proofs.FormParts.{copy_one}
use Rattle.constraint_rules.proofs.statics.reading_static.Goals as goal

pub returns-then-not-is_get_static : goal.returns-then-not-is_get_static
returns-then-not-is_get_static c = λ p s names set placed.
    none_of_kind c.args.t.now c.args.x.now p s names set placed IsGetStatic _ (λ is. false≢true (sym c.if-not-is_get_static.true ∙ c.is_get_static.ensures.1 is))

pub returns : goal.returns
returns c = λ p s names set placed.
    one_of_kind c.args.t.now c.args.x.now p s names set placed IsGetStatic _ c.copy_of.result (c.is_get_static.ensures.0 c.if-not-is_get_static.false)
    (copy_one _ _ _ _ _ c.copy_of.result (c.static_number.ensures p s names set placed) (c.value.ensures p s names set) c.copy_of.ensures)
