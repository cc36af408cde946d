use Rattle.std.proofs.Common.{◌∙◌}
use Rattle.text_tables.proofs.Answered.{ok_then, all_ok}
use Rattle.text_tables.proofs.Options.{one_found, none_is}
use Rattle.text_tables.proofs.site_texts.loaded_text.Goals as goal

pub returns-in-Some : goal.returns-in-Some
returns-in-Some c = ok_then c.from_bytes.result _ _ c.from_bytes.ensures
    (λ x e y h. e ∙ one_found _ c.class_of_index.result c.in-Some.name _ y c.in-Some.is c.class_of_index.ensures h)

pub returns-in-None : goal.returns-in-None
returns-in-None c = all_ok c.no_text.result _ (λ x y h. none_is _ c.class_of_index.result _ y c.in-None.is c.class_of_index.ensures h)
