-- The variables of static fields.
use Rattle.std.proofs.Common.{◌≡◌, ◌⊎◌, ◌<◌, ℕ, List, length, Option, Some, None, inl, inr, refl, sym, ap, subst, ◌∙◌, arith}
use Rattle.std.specs.Prelude.{◌↔◌, slice_get}
use Rattle.std.proofs.lemmas.Option.{same_Some, slice_get_within}
use Rattle.slicer_ids.specs.declared.ids.FieldId.{FieldId}
use Rattle.class_form.specs.Pools.{MemberKey, member_at}
use Rattle.class_form.specs.Classes.{Declared}
use Rattle.class_form.specs.Resolution.{FindsField}
use Rattle.class_form.specs.declared.class_file.ClassFile.{ClassFile}
use Rattle.dep_form.specs.declared.rules.Var.{Var}
use Rattle.dep_form.specs.declared.system.System.{System}
use Rattle.hierarchy.specs.Selections.{IsFoundField}
use Rattle.program_form.specs.Programs.{Program}
use Rattle.program_form.specs.Statements.{NamesMember, NamesField}
use Rattle.program_form.specs.Facts.{Variable, StaticField, StaticNamed}
use Rattle.program_form.specs.Systems.{VariableNumber, of_field}
use Rattle.constraint_form.specs.Variables.{Meaning}
use Rattle.constraint_form.proofs.Instructions.{one_member}
use Rattle.constraint_rules.specs.One.{IsOne}
use Rattle.constraint_rules.specs.Settings.{IsSetting, IsPlaced, place_of}
use Rattle.constraint_rules.specs.Statements.{IsStaticNumber, IsNumberOfStatic}
use Rattle.constraint_rules.specs.declared.tables.Tables.{Tables}
use Rattle.constraint_rules.specs.declared.tables.Reachable.{Reachable}
use Rattle.constraint_rules.proofs.Ones.{none_of, some_of, one_same}
use Rattle.constraint_rules.proofs.MemberLists.{one_members, one_number}
use Rattle.constraint_rules.proofs.OfNames.{one_found, key_here, named_here}

same_var : (x y : Var) → x.0 ≡ y.0 → x ≡ y
same_var x y e = ap (λ k. record { 0 = k }) e

number_of_field : (p : Program) (s : System) (f : FieldId) (x : Var) → VariableNumber p s (StaticField f) x → x.0 ≡ f.0
number_of_field p s f x (of_field lt e) = e

module _ (t : Tables) (p : Program) (s : System) (names : List Meaning) (set : IsSetting t p s names) (key : MemberKey) where
  -- a field has one number
  one_field_id : (f g : FieldId) (d : Declared) → slice_get p.fields f.0 ≡ Some d → slice_get p.fields g.0 ≡ Some d → f.0 ≡ g.0
  one_field_id f g d a b = one_number t.h.now (λ (k : ClassFile). k.fields) p.fields d f.0 g.0 set.of.fields_are a b

  pub static_found : (f : FieldId) (v : Var) → IsFoundField t.h.now key (Some f) → ((p : Program) (s : System) → f.0 < length p.fields → VariableNumber p s (StaticField f) v)
      → IsOne (IsNumberOfStatic p s key) (Some v)
  static_found f v (d, finds, (fields, are, at)) number = some_of (IsNumberOfStatic p s key) v is only
    where
      here : FindsField p.classes key (Some d)
      here = subst (λ (ks : List ClassFile). FindsField ks key (Some d)) (sym set.of.classes_are) finds

      there : slice_get p.fields f.0 ≡ Some d
      there = subst (λ ds. slice_get ds f.0 ≡ Some d) (one_members t.h.now (λ (k : ClassFile). k.fields) fields p.fields are set.of.fields_are) at

      var : VariableNumber p s (StaticField f) v
      var = number p s (slice_get_within p.fields f.0 d there)

      is : IsNumberOfStatic p s key v
      is = inl (f, d, here, there, var)

      only : (x : Var) → IsNumberOfStatic p s key x → v ≡ x
      only x (inl (g, e, found, place, has)) =
          let same : d ≡ e = same_Some d e (one_found t p s names set key (Some d) (Some e) here found) in
          let id = one_field_id f g e (subst (λ z. slice_get p.fields f.0 ≡ Some z) same there) place in
          same_var v x (omega (arith, number_of_field p s f v var, number_of_field p s g x has, id))
      only x (inr (found, has)) = absurd (let e : Some d ≡ None = one_found t p s names set key (Some d) None here found in cc e)

  pub static_foreign : (o : Option Var) → IsFoundField t.h.now key None → IsOne (λ y. VariableNumber p s (StaticNamed key.name key.descriptor) y) o
      → IsOne (IsNumberOfStatic p s key) o
  static_foreign o finds one = one_same (λ y. VariableNumber p s (StaticNamed key.name key.descriptor) y) (IsNumberOfStatic p s key) o (λ y h. inr (here, h)) from one
    where
      here : FindsField p.classes key None
      here = subst (λ (ks : List ClassFile). FindsField ks key None) (sym set.of.classes_are) finds

      from : (y : Var) → IsNumberOfStatic p s key y → VariableNumber p s (StaticNamed key.name key.descriptor) y
      from y (inl (g, e, found, place, has)) = absurd (let z : Some e ≡ None = one_found t p s names set key (Some e) None found here in cc z)
      from y (inr (found, has)) = has

module _ (t : Tables) (x : Reachable) (p : Program) (s : System) (names : List Meaning) (set : IsSetting t p s names) (placed : IsPlaced p x) where
  pub static_named : (key : MemberKey) (o : Option Var) → member_at x.file.now.pool x.instr.now.index ≡ Some key → IsOne (IsNumberOfStatic p s key) o → IsOne (IsStaticNumber p s (place_of x)) o
  static_named key o e one = one_same (IsNumberOfStatic p s key) (IsStaticNumber p s (place_of x)) o to from one
    where
      member : NamesMember p (place_of x) key
      member = named_here t x p s names set placed key e

      to : (v : Var) → IsNumberOfStatic p s key v → IsStaticNumber p s (place_of x) v
      to v (inl (f, d, finds, at, number)) = (StaticField f, inl (f, (key, d, member, finds, at), refl), number)
      to v (inr (none, number)) = (StaticNamed key.name key.descriptor, inr (key, (key, member, none), member, refl), number)

      same : (other : MemberKey) → NamesMember p (place_of x) other → other ≡ key
      same other m = one_member p set.of.read (place_of x) other key m member

      named : (other : MemberKey) (v : Var) → other ≡ key → VariableNumber p s (StaticNamed other.name other.descriptor) v → VariableNumber p s (StaticNamed key.name key.descriptor) v
      named other v e n = subst (λ (z : MemberKey). VariableNumber p s (StaticNamed z.name z.descriptor) v) e n

      from : (v : Var) → IsStaticNumber p s (place_of x) v → IsNumberOfStatic p s key v
      from v (w, inl (f, (other, d, m, finds, at), is), number) =
          inl (f, d, subst (λ z. FindsField p.classes z (Some d)) (same other m) finds, at, subst (λ z. VariableNumber p s z v) is number)
      from v (w, inr (other, (first, n, none), m, is), number) =
          inr (subst (λ z. FindsField p.classes z None) (same first n) none, named other v (same other m) (subst (λ z. VariableNumber p s z v) is number))

  member_of_static : (v : Var) → IsStaticNumber p s (place_of x) v → (key : MemberKey) × NamesMember p (place_of x) key
  member_of_static v (w, inl (f, (other, d, m, finds, at), is), number) = (other, m)
  member_of_static v (w, inr (other, none, m, is), number) = (other, m)

  pub no_static_named : member_at x.file.now.pool x.instr.now.index ≡ None → IsOne (IsStaticNumber p s (place_of x)) None
  no_static_named e = none_of (IsStaticNumber p s (place_of x)) (λ v h. let (key, m) = member_of_static v h in let g : None ≡ Some key = sym e ∙ key_here t x p s names set placed key m in cc g)
