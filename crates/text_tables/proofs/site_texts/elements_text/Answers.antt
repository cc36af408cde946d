use Rattle.std.proofs.Common.{ℕ, ◌∷◌, [], sym, ap, ◌∙◌}
use Rattle.std.proofs.lemmas.Option.{same_Some}
use Rattle.program_form.specs.Sites.{element_letter}
use Rattle.text_tables.proofs.Answered.{ok_then, all_ok}
use Rattle.text_tables.proofs.site_texts.elements_text.Goals as goal

pub returns-in-Some : goal.returns-in-Some
returns-in-Some c = ok_then c.primitives.result _ _ c.primitives.ensures
    (λ x e y (n, at, is). e ∙ ap (λ (m : ℕ). 91 ∷ element_letter m ∷ []) (same_Some c.in-Some.element n (sym c.in-Some.is ∙ c.byte_at.ensures ∙ at)) ∙ sym is)

pub returns-in-None : goal.returns-in-None
returns-in-None c = all_ok c.no_text.result _ (λ x y (n, at, is). absurd (cc (sym c.in-None.is ∙ c.byte_at.ensures ∙ at)))
