use Rattle.std.proofs.Common.{ℕ, List, sym, subst, ◌∙◌}
use Rattle.class_form.specs.Types.{IsMethodType}
use Rattle.text_tables.proofs.Answered.{ok_then, all_ok}
use Rattle.text_tables.proofs.Options.{one_found, none_is}
use Rattle.text_tables.proofs.site_texts.answer_text.Goals as goal

pub returns-in-Some : goal.returns-in-Some
returns-in-Some c = ok_then c.method_layer.result _ _ c.method_layer.ensures
    (λ x h y (bytes, m, t, at, is, r, e). h m t (subst (λ (z : List ℕ). IsMethodType z m) (sym (one_found _ c.descriptor.result c.in-Some.descriptor _ bytes c.in-Some.is c.descriptor.ensures at)) is) r ∙ sym e)

pub returns-in-None : goal.returns-in-None
returns-in-None c = all_ok c.no_text.result _ (λ x y (bytes, m, t, at, is, r, e). none_is _ c.descriptor.result _ bytes c.in-None.is c.descriptor.ensures at)
