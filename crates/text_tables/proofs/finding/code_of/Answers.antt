use Rattle.std.proofs.Common.{◌≡◌, List, All, Some, sym, subst, ◌∙◌}
use Rattle.std.specs.Prelude.{slice_get}
use Rattle.class_form.specs.ClassRules.{IsClassFile}
use Rattle.class_form.specs.declared.class_file.ClassFile.{ClassFile}
use Rattle.text_tables.proofs.Placed.{code_place, no_place}
use Rattle.text_tables.proofs.finding.code_of.Goals as goal

pub code_at-requires : goal.code_at-requires
code_at-requires c = subst (All IsClassFile) (sym c.classes.ensures.classes) c.requires

pub returns-in-Some : goal.returns-in-Some
returns-in-Some c = λ p code same coded of.
    let (k, at, is) = code_place p c.args.m c.place_of.result c.in-Some.place code c.in-Some.is (c.place_of.ensures p same coded) of in
    c.code_at.ensures k code (subst (λ (ks : List ClassFile). slice_get ks c.in-Some.place.0.0 ≡ Some k) (same ∙ sym c.classes.ensures.classes) at) is

pub returns-in-None : goal.returns-in-None
returns-in-None c = λ p code same coded of. no_place p c.args.m.0 of.0 c.place_of.result c.in-None.is (c.place_of.ensures p same coded) of.4.0
