use Rattle.std.proofs.Common.{ap, ◌∙◌}
use Rattle.class_form.specs.Types.{IsFieldType, constant_text}
use Rattle.class_form.specs.declared.types.FieldType.{FieldType}
use Rattle.class_form.proofs.OneType.{one_field_type}
use Rattle.text_tables.specs.SiteTexts.{layer}
use Rattle.text_tables.proofs.Answered.{ok_then, no_value}
use Rattle.text_tables.proofs.site_texts.field_layer.Goals as goal

pub returns-in-Ok : goal.returns-in-Ok
returns-in-Ok c = ok_then c.layer_text.result _ _ c.layer_text.ensures
    (λ x e u is. e ∙ ap (λ (z : FieldType). constant_text (layer z c.args.k)) (one_field_type c.args.descriptor.now c.in-Ok.t u c.in-Ok.ensures is))

pub returns-in-Err : goal.returns-in-Err
returns-in-Err c = ok_then c.unread.result _ _ c.unread.ensures (λ x other u is. absurd (no_value IsFieldType c.args.descriptor.now c.in-Err.e c.in-Err.ensures other u is))
