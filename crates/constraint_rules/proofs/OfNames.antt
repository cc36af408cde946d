-- What an instruction names.
use Rattle.std.proofs.Common.{◌≡◌, ◌⊎◌, ◌<◌, ◌+◌, ◌-◌, ℕ, List, length, Option, Some, None, inl, inr, refl, sym, ap, subst, ◌∙◌, arith}
use Rattle.std.specs.Prelude.{◌↔◌, slice_get, MatchOption}
use Rattle.std.proofs.lemmas.Option.{same_Some, slice_get_within}
use Rattle.slicer_ids.specs.declared.ids.ClassId.{ClassId}
use Rattle.slicer_ids.specs.declared.ids.FieldId.{FieldId}
use Rattle.class_form.specs.Pools.{MemberKey, member_at, class_at}
use Rattle.class_form.specs.Classes.{Declared, IsNamed, IsOutside, AreInOrder}
use Rattle.class_form.specs.Numbers.{AreFields}
use Rattle.class_form.specs.Resolution.{FindsField, FirstIn, DeclaresField}
use Rattle.class_form.specs.declared.class_file.ClassFile.{ClassFile}
use Rattle.class_form.specs.declared.body.Instr.{Instr}
use Rattle.dep_form.specs.declared.system.System.{System}
use Rattle.hierarchy.specs.Selections.{IsFoundField, IsFieldNumber}
use Rattle.program_form.specs.Programs.{Program, ClassOf}
use Rattle.program_form.specs.Statements.{NamesClass, NamesMember, NamesField}
use Rattle.program_form.specs.Facts.{field_name}
use Rattle.program_form.specs.Systems.{FieldNumber}
use Rattle.program_form.proofs.Visits.{one_class, one_field, one_first}
use Rattle.constraint_form.specs.Variables.{Meaning}
use Rattle.constraint_form.specs.Rules.{IsFilter}
use Rattle.constraint_form.proofs.Instructions.{one_at, one_class_file, one_member, one_class_name}
use Rattle.constraint_rules.specs.One.{IsOne}
use Rattle.constraint_rules.specs.Settings.{IsSetting, IsPlaced, place_of}
use Rattle.constraint_rules.specs.Statements.{IsFieldOf, IsKeptBy}
use Rattle.constraint_rules.specs.declared.tables.Tables.{Tables}
use Rattle.constraint_rules.specs.declared.tables.Reachable.{Reachable}
use Rattle.constraint_rules.proofs.Ones.{none_of, some_of}
use Rattle.constraint_rules.proofs.MemberLists.{one_members, one_number}

same_field : (f g : FieldId) → f.0 ≡ g.0 → f ≡ g
same_field f g e = ap (λ k. record { 0 = k }) e

module _ (t : Tables) (p : Program) (s : System) (names : List Meaning) (set : IsSetting t p s names) where
  -- a field is found or not
  pub one_found : (key : MemberKey) (a b : Option Declared) → FindsField p.classes key a → FindsField p.classes key b → a ≡ b
  one_found key a b f g =
      let same = one_field p.classes set.of.read.classes (Some key.class) g.1 f.1 in
      one_first (DeclaresField p.classes key) once f.0 f.2 (subst (λ cs. FirstIn (DeclaresField p.classes key) cs b) same g.2)
    where
      once : (d e : Declared) → DeclaresField p.classes key d → DeclaresField p.classes key e → d.class ≡ e.class → d ≡ e
      once = subst (λ (ks : List ClassFile). (d e : Declared) → DeclaresField ks key d → DeclaresField ks key e → d.class ≡ e.class → d ≡ e) (sym set.of.classes_are) (set.of.fields_once key)

  -- the class that a filter keeps
  pub filters : (text : List ℕ) (o : Option ClassId) → MatchOption o (IsOutside t.h.now text) (λ c. IsNamed t.h.now text c.0) → IsFilter p text o
  filters text None out = subst (λ (ks : List ClassFile). IsOutside ks text) (sym set.of.classes_are) out
  filters text (Some c) is = subst (λ (ks : List ClassFile). IsNamed ks text c.0) (sym set.of.classes_are) is

  pub one_filter : (text : List ℕ) (a b : Option ClassId) → IsFilter p text a → IsFilter p text b → a ≡ b
  one_filter text None None u v = refl
  one_filter text None (Some c) u v = absurd (u c.0 v)
  one_filter text (Some c) None u v = absurd (v c.0 u)
  one_filter text (Some c) (Some d) u v = ap (λ k. Some (record { 0 = k })) (one_class p.classes text c.0 d.0 set.of.read.classes u v)

module _ (t : Tables) (x : Reachable) (p : Program) (s : System) (names : List Meaning) (set : IsSetting t p s names) (placed : IsPlaced p x) where
  pub named_here : (key : MemberKey) → member_at x.file.now.pool x.instr.now.index ≡ Some key → NamesMember p (place_of x) key
  named_here key e = (x.body.now, x.instr.now, placed.file.0, x.file.now, placed.at, placed.file.1, e)

  pub key_here : (key : MemberKey) → NamesMember p (place_of x) key → member_at x.file.now.pool x.instr.now.index ≡ Some key
  key_here key (a, j, d, g, there, from, has) =
      let one = one_at p set.of.read (place_of x) a x.body.now j x.instr.now there placed.at in
      let file = one_class_file p set.of.read x.body.now.method d placed.file.0 g x.file.now from placed.file.1 in
      subst (λ (i : Instr). member_at x.file.now.pool i.index ≡ Some key) one.1 (subst (λ (k : ClassFile). member_at k.pool j.index ≡ Some key) file.1 has)

  pub class_named_here : (text : List ℕ) → class_at x.file.now.pool x.instr.now.index ≡ Some text → NamesClass p (place_of x) text
  class_named_here text e = (x.body.now, x.instr.now, placed.file.0, x.file.now, placed.at, placed.file.1, e)

  pub class_name_here : (text : List ℕ) → NamesClass p (place_of x) text → class_at x.file.now.pool x.instr.now.index ≡ Some text
  class_name_here text (a, j, d, g, there, from, has) =
      let one = one_at p set.of.read (place_of x) a x.body.now j x.instr.now there placed.at in
      let file = one_class_file p set.of.read x.body.now.method d placed.file.0 g x.file.now from placed.file.1 in
      subst (λ (i : Instr). class_at x.file.now.pool i.index ≡ Some text) one.1 (subst (λ (k : ClassFile). class_at k.pool j.index ≡ Some text) file.1 has)

  -- what was found is what the instruction names
  pub found_named : (key : MemberKey) (o : Option FieldId) → NamesMember p (place_of x) key → IsFoundField t.h.now key o → NamesField p (place_of x) o
  found_named key None member found = (key, member, subst (λ (ks : List ClassFile). FindsField ks key None) (sym set.of.classes_are) found)
  found_named key (Some f) member (d, found, (fields, are, at)) =
      let same = one_members t.h.now (λ (k : ClassFile). k.fields) fields p.fields are set.of.fields_are in
      (key, d, member, subst (λ (ks : List ClassFile). FindsField ks key (Some d)) (sym set.of.classes_are) found, subst (λ ds. slice_get ds f.0 ≡ Some d) same at)

  pub one_named : (f g : Option FieldId) → NamesField p (place_of x) f → NamesField p (place_of x) g → f ≡ g
  one_named None None a b = refl
  one_named None (Some g) (key, m, found) (other, d, n, has, at) =
      let same = one_member p set.of.read (place_of x) other key n m in
      absurd (let e : None ≡ Some d = one_found t p s names set key None (Some d) found (subst (λ z. FindsField p.classes z (Some d)) same has) in cc e)
  one_named (Some f) None (key, d, m, found, at) (other, n, has) =
      let same = one_member p set.of.read (place_of x) other key n m in
      absurd (let e : Some d ≡ None = one_found t p s names set key (Some d) None found (subst (λ z. FindsField p.classes z None) same has) in cc e)
  one_named (Some f) (Some g) (key, d, m, found, at) (other, e, n, has, there) =
      let same = one_member p set.of.read (place_of x) other key n m in
      let declared : d ≡ e = same_Some d e (one_found t p s names set key (Some d) (Some e) found (subst (λ z. FindsField p.classes z (Some e)) same has)) in
      ap (λ z. Some z) (same_field f g (one_number t.h.now (λ (k : ClassFile). k.fields) p.fields e f.0 g.0 set.of.fields_are (subst (λ z. slice_get p.fields f.0 ≡ Some z) declared at) there))

  pub one_field_named : (key : MemberKey) (o : Option FieldId) → member_at x.file.now.pool x.instr.now.index ≡ Some key → IsFoundField t.h.now key o → IsOne (NamesField p (place_of x)) (Some o)
  one_field_named key o e found = let is = found_named key o (named_here key e) found in some_of (NamesField p (place_of x)) o is (λ f h. one_named o f is h)

  member_of : (f : Option FieldId) → NamesField p (place_of x) f → (key : MemberKey) × NamesMember p (place_of x) key
  member_of None (key, m, found) = (key, m)
  member_of (Some f) (key, d, m, found, at) = (key, m)

  pub no_field_named : member_at x.file.now.pool x.instr.now.index ≡ None → IsOne (NamesField p (place_of x)) None
  no_field_named e = none_of (NamesField p (place_of x)) (λ f h. let (key, m) = member_of f h in let g : None ≡ Some key = sym e ∙ key_here key m in cc g)

  -- the number of the field
  within : (f : FieldId) → NamesField p (place_of x) (Some f) → f.0 + 3 < s.fields
  within f (key, d, m, found, at) = omega (arith, slice_get_within p.fields f.0 d at, set.fields, set.same_fields)

  number_from : (o : Option FieldId) → IsOne (NamesField p (place_of x)) (Some o) → (n : FieldId) → FieldNumber s (field_name o) n → IsOne (IsFieldOf p s (place_of x)) (Some n)
  number_from o one n number = some_of (IsFieldOf p s (place_of x)) n (o, (one o).1 refl, number) (λ g (f, names, h). same g (sym (same_Some o f ((one f).0 names))) h)
    where
      one_of_name : (f : Option FieldId) (a b : FieldId) → FieldNumber s (field_name f) a → FieldNumber s (field_name f) b → a ≡ b
      one_of_name None a b u v = u ∙ sym v
      one_of_name (Some f) a b u v = u.0 ∙ sym v.0

      same : (g : FieldId) {f : Option FieldId} → f ≡ o → FieldNumber s (field_name f) g → n ≡ g
      same g e h = one_of_name o n g number (subst (λ z. FieldNumber s (field_name z) g) e h)

  -- .. or the state of the object
  pub number_named : (o n : Option FieldId) → ((f : FieldId) → o ≡ Some f → n ≡ Some f) → (o ≡ None → IsOne (λ g. g ≡ record { 0 = s.fields - 1 }) n)
      → IsOne (NamesField p (place_of x)) (Some o) → IsOne (IsFieldOf p s (place_of x)) n
  number_named None n named state one =
      let g : FieldId = record { 0 = s.fields - 1 } in
      subst (λ z. IsOne (IsFieldOf p s (place_of x)) z) (sym ((state refl g).0 refl)) (number_from None one g refl)
  number_named (Some f) n named state one =
      subst (λ z. IsOne (IsFieldOf p s (place_of x)) z) (sym (named f refl)) (number_from (Some f) one f (refl, within f ((one (Some f)).1 refl)))

  pub number_of_none : IsOne (NamesField p (place_of x)) None → IsOne (IsFieldOf p s (place_of x)) None
  number_of_none one = none_of (IsFieldOf p s (place_of x)) (λ g (f, names, h). cc ((one f).0 names))

  -- the class that a cast keeps
  pub one_kept : (text : List ℕ) (o : Option ClassId) → class_at x.file.now.pool x.instr.now.index ≡ Some text → MatchOption o (IsOutside t.h.now text) (λ c. IsNamed t.h.now text c.0)
      → IsOne (IsKeptBy p (place_of x)) (Some o)
  one_kept text o e found =
      some_of (IsKeptBy p (place_of x)) o (text, class_named_here text e, filters t p s names set text o found) (λ keep (other, named, filter).
      let same = one_class_name p set.of.read (place_of x) other text named (class_named_here text e) in
      one_filter t p s names set text o keep (filters t p s names set text o found) (subst (λ z. IsFilter p z keep) same filter))

  pub none_kept : class_at x.file.now.pool x.instr.now.index ≡ None → IsOne (IsKeptBy p (place_of x)) None
  none_kept e = none_of (IsKeptBy p (place_of x)) (λ keep (text, named, filter). let g : None ≡ Some text = sym e ∙ class_name_here text named in cc g)
