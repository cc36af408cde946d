use Rattle.std.proofs.Common.{sym, subst}
use Rattle.std.proofs.lemmas.List.Elements.{All-contains}
use Rattle.class_form.specs.ClassRules.{IsClassFile}
use Rattle.class_form.specs.declared.class_file.ClassFile.{ClassFile}
use Rattle.class_form.proofs.Indices.{there_at}
use Rattle.text_tables.specs.Found.{IsCodeAt}
use Rattle.text_tables.proofs.Options.{some_is, none_is, one_found}
use Rattle.text_tables.proofs.finding.code_at.Goals as goal

pub code_in-requires : goal.code_in-requires
code_in-requires c =
    let at = some_is _ c.class_at.result c.in-Some.file _ c.in-Some.is c.class_at.ensures in
    All-contains IsClassFile c.args.classes.now c.in-Some.file.now c.requires (there_at c.args.classes.now c.args.class.0 c.in-Some.file.now at)

pub returns-in-Some : goal.returns-in-Some
returns-in-Some c = λ k code at is.
    let same = one_found _ c.class_at.result c.in-Some.file _ k c.in-Some.is c.class_at.ensures at in
    c.code_in.ensures code (subst (λ (z : ClassFile). IsCodeAt z c.args.place code) (sym same) is)

pub returns-in-None : goal.returns-in-None
returns-in-None c = λ k code at is. none_is _ c.class_at.result _ k c.in-None.is c.class_at.ensures at
