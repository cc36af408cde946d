use Rattle.std.proofs.Common.{List, ap, sym, ◌∙◌}
use Rattle.std.specs.Prelude.{slice_get}
use Rattle.class_form.specs.declared.class_file.ClassFile.{ClassFile}
use Rattle.text_tables.proofs.Placed.{file_found, no_place}
use Rattle.text_tables.proofs.finding.file_of.Goals as goal

pub returns-in-Some : goal.returns-in-Some
returns-in-Some c = λ p n k same coded of.
    c.class_at.ensures ∙ ap (λ (ks : List ClassFile). slice_get ks c.in-Some.place.0.0) (c.classes.ensures.classes ∙ sym same)
    ∙ file_found p c.args.m c.place_of.result c.in-Some.place n k c.in-Some.is (c.place_of.ensures p same coded) of

pub returns-in-None : goal.returns-in-None
returns-in-None c = λ p n k same coded of. no_place p c.args.m.0 of.0 c.place_of.result c.in-None.is (c.place_of.ensures p same coded) of.1
