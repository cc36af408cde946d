use Rattle.std.proofs.Common.{ℕ, List, drop, sym, ap, ◌∙◌}
use Rattle.text_tables.proofs.Answered.{ok_then, all_ok}
use Rattle.text_tables.proofs.Options.{one_found, none_is}
use Rattle.text_tables.proofs.site_texts.dimension_text.Goals as goal

pub returns-in-Some : goal.returns-in-Some
returns-in-Some c = ok_then c.from_bytes.result _ _ c.from_bytes.ensures
    (λ x e y (text, at, is). e ∙ c.without.ensures ∙ ap (λ (z : List ℕ). drop c.args.k z) (one_found _ c.class.result c.in-Some.text _ text c.in-Some.is c.class.ensures at) ∙ sym is)

pub returns-in-None : goal.returns-in-None
returns-in-None c = all_ok c.no_text.result _ (λ x y (text, at, is). none_is _ c.class.result _ text c.in-None.is c.class.ensures at)
