use Rattle.std.proofs.Common.{sym, ◌∙◌}
use Rattle.std.proofs.lemmas.Bool.{false≢true}
use Rattle.class_form.specs.Opcodes.{IsPutField}
use Rattle.constraint_rules.proofs.OfKind.{one_of_kind, none_of_kind}
use Rattle.constraint_rules.proofs.FormParts.{store_one}
use Rattle.constraint_rules.proofs.fields.writing_field.Goals as goal

pub returns-then-not-is_put_field : goal.returns-then-not-is_put_field
returns-then-not-is_put_field c = λ p s names set placed.
    none_of_kind c.args.t.now c.args.x.now p s names set placed IsPutField _ (λ is. false≢true (sym c.if-not-is_put_field.true ∙ c.is_put_field.ensures.1 is))

pub returns : goal.returns
returns c = λ p s names set placed.
    one_of_kind c.args.t.now c.args.x.now p s names set placed IsPutField _ c.store_of.result (c.is_put_field.ensures.0 c.if-not-is_put_field.false)
    (store_one _ _ _ _ _ _ c.store_of.result (c.object.ensures p s names set placed) (c.field_of.ensures p s names set placed) (c.object-2.ensures p s names set placed) c.store_of.ensures)
