use Rattle.std.proofs.Common.{Some, refl, ap, ◌∙◌}
use Rattle.class_form.specs.declared.class_file.CodeBody.{CodeBody}
use Rattle.text_tables.proofs.Options.{one_found, none_is}
use Rattle.text_tables.proofs.sites.code_bytes.Goals as goal

pub returns-in-Some : goal.returns-in-Some
returns-in-Some c = λ p code same coded of.
    c.bytes.ensures ∙ ap (λ (z : CodeBody). z.code) (one_found _ c.code_of.result c.in-Some.code (Some code) code c.in-Some.is (c.code_of.ensures p code same coded of) refl)

pub returns-in-None : goal.returns-in-None
returns-in-None c = λ p code same coded of. none_is _ c.code_of.result (Some code) code c.in-None.is (c.code_of.ensures p code same coded of) refl
