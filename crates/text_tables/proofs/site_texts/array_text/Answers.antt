use Rattle.std.proofs.Common.{ℕ, List, sym, subst, ◌∙◌}
use Rattle.class_form.specs.Types.{NamesType}
use Rattle.text_tables.proofs.Answered.{ok_then, all_ok}
use Rattle.text_tables.proofs.Options.{one_found, none_is}
use Rattle.text_tables.proofs.site_texts.array_text.Goals as goal

pub returns-in-Some : goal.returns-in-Some
returns-in-Some c = ok_then c.array_of.result _ _ c.array_of.ensures
    (λ x h y (text, t, at, names, is). h t (subst (λ (z : List ℕ). NamesType z t) (sym (one_found _ c.class.result c.in-Some.text _ text c.in-Some.is c.class.ensures at)) names) ∙ sym is)

pub returns-in-None : goal.returns-in-None
returns-in-None c = all_ok c.no_text.result _ (λ x y (text, t, at, names, is). none_is _ c.class.result _ text c.in-None.is c.class.ensures at)
