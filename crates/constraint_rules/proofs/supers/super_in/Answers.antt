use Rattle.std.proofs.Common.{List, sym, subst}
use Rattle.std.specs.Prelude.{MatchOption}
use Rattle.class_form.specs.Classes.{IsNamed, IsOutside}
use Rattle.class_form.specs.declared.class_file.ClassFile.{ClassFile}
use Rattle.constraint_rules.proofs.Climbs.{super_named, no_super_named}
use Rattle.constraint_rules.proofs.supers.super_in.Goals as goal

pub returns-in-Some : goal.returns-in-Some
returns-in-Some c = λ p k of is.
    super_named p.classes of.read.classes k c.args.file.now is c.in-Some.name.now c.find_class.result (sym c.in-Some.ensures)
    (subst (λ (ks : List ClassFile). MatchOption c.find_class.result (IsOutside ks c.in-Some.name.now) (λ d. IsNamed ks c.in-Some.name.now d.0)) (sym of.classes_are) c.find_class.ensures)

pub returns-in-None : goal.returns-in-None
returns-in-None c = λ p k of is. no_super_named p.classes of.read.classes k c.args.file.now is (sym c.in-None.ensures)
