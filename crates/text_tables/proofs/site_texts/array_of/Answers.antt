use Rattle.std.proofs.Common.{sym, ◌∙◌}
use Rattle.std.proofs.lemmas.Bool.{false≢true}
use Rattle.text_tables.proofs.Answered.{ok_then}
use Rattle.text_tables.proofs.TypeTexts.{array_of_class, array_of_array}
use Rattle.text_tables.proofs.site_texts.array_of.Goals as goal

pub returns-then-is_class_name : goal.returns-then-is_class_name
returns-then-is_class_name c = ok_then c.class_descriptor.result _ _ c.class_descriptor.ensures
    (λ x e. array_of_class c.args.text.now x (c.is_class_name.ensures.exact.0 c.if-is_class_name.true) e)

pub returns-else-is_class_name : goal.returns-else-is_class_name
returns-else-is_class_name c = ok_then c.bracketed.result _ _ c.bracketed.ensures
    (λ x e. array_of_array c.args.text.now x (λ h. false≢true (sym c.if-is_class_name.false ∙ c.is_class_name.ensures.exact.1 h)) e)
