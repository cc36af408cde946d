use Rattle.std.proofs.Common.{ℕ, List, sym, subst, ◌∙◌}
use Rattle.class_form.specs.Types.{IsFieldType}
use Rattle.text_tables.proofs.Answered.{ok_then, all_ok}
use Rattle.text_tables.proofs.Options.{one_found, none_is}
use Rattle.text_tables.proofs.site_texts.field_text.Goals as goal

pub returns-in-Some : goal.returns-in-Some
returns-in-Some c = ok_then c.field_layer.result _ _ c.field_layer.ensures
    (λ x h y (bytes, t, at, is, e). h t (subst (λ (z : List ℕ). IsFieldType z t) (sym (one_found _ c.descriptor.result c.in-Some.descriptor _ bytes c.in-Some.is c.descriptor.ensures at)) is) ∙ sym e)

pub returns-in-None : goal.returns-in-None
returns-in-None c = all_ok c.no_text.result _ (λ x y (bytes, t, at, is, e). none_is _ c.descriptor.result _ bytes c.in-None.is c.descriptor.ensures at)
