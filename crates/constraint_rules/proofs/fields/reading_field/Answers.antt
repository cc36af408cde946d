use Rattle.std.proofs.Common.{sym, ◌∙◌}
use Rattle.std.proofs.lemmas.Bool.{false≢true}
use Rattle.class_form.specs.Opcodes.{IsGetField}
use Rattle.constraint_rules.proofs.OfKind.{one_of_kind, none_of_kind}
use Rattle.constraint_rules.proofs.FormParts.{load_one}
use Rattle.constraint_rules.proofs.fields.reading_field.Goals as goal

pub returns-then-not-is_get_field : goal.returns-then-not-is_get_field
returns-then-not-is_get_field c = λ p s names set placed.
    none_of_kind c.args.t.now c.args.x.now p s names set placed IsGetField _ (λ is. false≢true (sym c.if-not-is_get_field.true ∙ c.is_get_field.ensures.1 is))

pub returns : goal.returns
returns c = λ p s names set placed.
    one_of_kind c.args.t.now c.args.x.now p s names set placed IsGetField _ c.load_of.result (c.is_get_field.ensures.0 c.if-not-is_get_field.false)
    (load_one _ _ _ _ _ _ c.load_of.result (c.object.ensures p s names set placed) (c.field_of.ensures p s names set placed) (c.value.ensures p s names set) c.load_of.ensures)
