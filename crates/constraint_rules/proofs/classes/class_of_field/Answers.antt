use Rattle.std.proofs.Common.{◌≡◌, List, length, map, sym, arith}
use Rattle.std.proofs.lemmas.Bool.{ltb-true, ltb-false}
use Rattle.class_form.specs.Classes.{Declared}
use Rattle.class_form.specs.declared.class_file.ClassFile.{ClassFile}
use Rattle.class_form.proofs.Indices.{read_at}
use Rattle.hierarchy.specs.Places.{declared_at}
use Rattle.program_form.specs.Programs.{Program}
use Rattle.signature_tables.specs.Programs.{IsOfClasses}
use Rattle.constraint_rules.proofs.MemberLists.{one_members}
use Rattle.constraint_rules.proofs.Needing.{member_class, no_member_class}
use Rattle.constraint_rules.proofs.classes.class_of_field.Goals as goal

pub returns-in-Some : goal.returns-in-Some
returns-in-Some c = λ p of.
    member_class p.fields c.field_places.result.now c.args.field.0 c.in-Some.place.now
    (one_members c.args.h.now (λ (k : ClassFile). k.fields) (map declared_at c.field_places.result.now) p.fields c.field_places.ensures of.fields_are)
    (read_at c.field_places.result.now c.args.field.0 c.in-Some.place.now (ltb-true _ _ (sym c.in-Some.ensures.lookup.0)) c.in-Some.ensures.lookup.1)

pub returns-in-None : goal.returns-in-None
returns-in-None c = λ p of.
    no_member_class p.fields c.field_places.result.now c.args.field.0
    (one_members c.args.h.now (λ (k : ClassFile). k.fields) (map declared_at c.field_places.result.now) p.fields c.field_places.ensures of.fields_are)
    (ltb-false c.args.field.0 (length c.field_places.result.now) (sym c.in-None.ensures.lookup.0))
