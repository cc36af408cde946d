use Rattle.std.proofs.Common.{List, length, sym, ap, subst, ◌∙◌, arith}
use Rattle.std.proofs.lemmas.Bool.{ltb-true, ltb-false}
use Rattle.std.proofs.lemmas.Option.{slice_get_within}
use Rattle.class_form.specs.Classes.{IsClass}
use Rattle.class_form.specs.declared.class_file.ClassFile.{ClassFile}
use Rattle.class_form.proofs.Indices.{read_at}
use Rattle.constraint_rules.proofs.Climbs.{no_class}
use Rattle.constraint_rules.proofs.supers.super_of.Goals as goal

pub returns-in-Some : goal.returns-in-Some
returns-in-Some c = λ p of.
    c.super_in.ensures p c.args.class.0 of (subst (λ (ks : List ClassFile). IsClass ks c.args.class.0 c.in-Some.file.now) (c.classes.ensures.classes ∙ sym of.classes_are)
    (read_at c.classes.result.now c.args.class.0 c.in-Some.file.now (ltb-true _ _ (sym c.in-Some.ensures.lookup.0)) c.in-Some.ensures.lookup.1))

pub returns-in-None : goal.returns-in-None
returns-in-None c = λ p of.
    no_class p.classes c.args.class.0 (λ k is. omega (
      arith,
      slice_get_within p.classes c.args.class.0 k is,
      ap (λ (ks : List ClassFile). length ks) (of.classes_are ∙ sym c.classes.ensures.classes),
      ltb-false c.args.class.0 (length c.classes.result.now) (sym c.in-None.ensures.lookup.0),
    ))
