-- The least program is one of its classes.
use Rattle.std.proofs.Common.{◌≡◌, ℕ, List, [], ◌∷◌, Some, Contains, refl, sym, subst, ap, ◌∙◌, arith}
use Rattle.std.specs.Prelude.{slice_get, codes}
use Rattle.std.proofs.lemmas.List.Elements.{All-cons}
use Rattle.class_form.specs.Classes.{Declared, IsMethod, IsField}
use Rattle.class_form.specs.Numbers.{AreMethods, AreFields, MemberBefore, IsThere}
use Rattle.class_form.specs.declared.class_file.ClassFile.{ClassFile}
use Rattle.class_form.specs.declared.class_file.Member.{Member}
use Rattle.program_form.specs.Tiny.{tiny_program, tiny_class, tiny_member, tiny_place}
use Rattle.program_form.proofs.Tiny.{class_place}
use Rattle.program_form.proofs.TinySystem.{all_none}
use Rattle.constraint_form.proofs.LeastProgram.{one_alone, text, class_number, member_number, main_method, tiny_asked}
use Rattle.signature_tables.specs.Programs.{IsOfClasses}

-- the only place of a method
only_place : (d : Declared) (k : ClassFile) (x : Member) → slice_get tiny_program.classes d.class ≡ Some k → slice_get k.methods d.index ≡ Some x → tiny_place ≡ d
only_place d k x is at =
    let member = member_number d.index x (subst (λ (c : ClassFile). slice_get c.methods d.index ≡ Some x) (class_place d.class k is) at) in
    ap (λ n. record { class = n; index = 0 }) (sym (class_number d.class k is)) ∙ ap (λ n. record { class = d.class; index = n }) (sym member.0)

no_field : (d : Declared) (k : ClassFile) (x : Member) → slice_get tiny_program.classes d.class ≡ Some k → slice_get k.fields d.index ≡ Some x → ⊥
no_field d k x is at =
    let e : slice_get tiny_class.fields d.index ≡ Some x = subst (λ (c : ClassFile). slice_get c.fields d.index ≡ Some x) (class_place d.class k is) at in
    absurd (cc e)

least_methods : AreMethods tiny_program.classes tiny_program.methods
least_methods = record {
  each = All-cons (IsThere (IsMethod tiny_program.classes)) tiny_place [] (tiny_member, codes "main", text, main_method.1) (all_none (IsThere (IsMethod tiny_program.classes)));
  order = one_alone (MemberBefore (IsMethod tiny_program.classes)) tiny_place;
  whole = λ d (x, n, e, (k, is, (at, named, described))). subst (λ y. Contains tiny_program.methods y) (only_place d k x is at) (0, omega arith, refl);
}

least_fields : AreFields tiny_program.classes tiny_program.fields
least_fields = record {
  each = all_none (IsThere (IsField tiny_program.classes));
  order = λ i j d lt within. absurd (omega (arith, within));
  whole = λ d (x, n, e, (k, is, (at, named, described))). absurd (no_field d k x is at);
}

pub least_classes : IsOfClasses tiny_program.classes tiny_program
least_classes = record {
  classes_are = refl;
  methods_are = least_methods;
  fields_are = least_fields;
  fields_once = λ key d e (k, x, is, (at, named, described)) other same. absurd (no_field d k x is at);
  methods_once = λ key d e (k, x, is, (at, named, described)) (j, y, has, (there, too, more)) same. sym (only_place d k x is at) ∙ only_place e j y has there;
  read = tiny_asked;
}
