use Rattle.std.proofs.Common.{sym, ap, ◌∙◌}
use Rattle.std.proofs.lemmas.Option.{same_Some}
use Rattle.class_form.specs.Types.{constant_text}
use Rattle.class_form.specs.declared.types.FieldType.{FieldType}
use Rattle.text_tables.specs.SiteTexts.{layer}
use Rattle.text_tables.proofs.Answered.{ok_then, all_ok}
use Rattle.text_tables.proofs.site_texts.result_layer.Goals as goal

pub returns-in-Some : goal.returns-in-Some
returns-in-Some c = ok_then c.layer_text.result _ _ c.layer_text.ensures
    (λ x e u is. e ∙ ap (λ (z : FieldType). constant_text (layer z c.args.k)) (same_Some c.in-Some.t u (sym c.in-Some.is ∙ is)))

pub returns-in-None : goal.returns-in-None
returns-in-None c = all_ok c.no_text.result _ (λ x u is. absurd (cc (sym c.in-None.is ∙ is)))
