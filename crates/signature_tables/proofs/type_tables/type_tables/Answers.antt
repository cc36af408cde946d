use Rattle.std.proofs.Common.{List, sym, subst}
use Rattle.std.specs.Prelude.{map}
use Rattle.slicer_ids.specs.Sets.{IsOrderedListOf}
use Rattle.class_form.specs.Numbers.{AreMethods}
use Rattle.class_form.specs.declared.class_file.ClassFile.{ClassFile}
use Rattle.signature_tables.specs.Pairs.{ClassesBefore, IsSubPair}
use Rattle.signature_tables.specs.Selections.{AreChoices}
use Rattle.signature_tables.specs.TextPairs.{pair_of}
use Rattle.signature_tables.proofs.Typing.{types_are}
use Rattle.signature_tables.proofs.type_tables.type_tables.Goals as goal

pub returns : goal.returns
returns c = λ p of ordered.
    let gs = map pair_of c.args.signatures.now in
    let same = sym of.classes_are in
    types_are p of.read (subst (λ (ks : List ClassFile). AreMethods ks p.methods) same of.methods_are) gs ordered c.in_ok-selects.selects
    (subst (λ (ks : List ClassFile). AreChoices ks gs c.in_ok-selects.selects) same c.in_ok-selects.ensures) c.in_ok-subclasses.subclasses
    (subst (λ (ks : List ClassFile). IsOrderedListOf ClassesBefore c.in_ok-subclasses.subclasses (IsSubPair ks)) same c.in_ok-subclasses.ensures)
