-- The class that a statement needs.
use Rattle.std.proofs.Common.{◌≡◌, ◌⊎◌, ◌<◌, ◌≤◌, ℕ, List, length, map, Option, Some, None, inl, inr, refl, sym, ap, subst, ◌∙◌, arith}
use Rattle.std.specs.Prelude.{◌↔◌, slice_get, option_map, MatchOption}
use Rattle.std.proofs.lemmas.Option.{same_Some, slice_get-map, slice_get_within}
use Rattle.std.proofs.lemmas.List.{length-map}
use Rattle.slicer_ids.specs.declared.ids.ClassId.{ClassId}
use Rattle.slicer_ids.specs.declared.ids.FieldId.{FieldId}
use Rattle.slicer_ids.specs.declared.ids.MethodId.{MethodId}
use Rattle.class_form.specs.Pools.{MemberKey, class_at, member_at}
use Rattle.class_form.specs.Classes.{Declared, IsNamed, IsOutside}
use Rattle.class_form.specs.Resolution.{FindsMethod, DeclaresMethod}
use Rattle.class_form.specs.Opcodes.{IsNew, IsStaticCall, IsGetStatic, IsPutStatic}
use Rattle.class_form.specs.declared.class_file.ClassFile.{ClassFile}
use Rattle.dep_form.specs.declared.system.System.{System}
use Rattle.hierarchy.specs.Places.{declared_at}
use Rattle.hierarchy.specs.Selections.{IsFoundMethod}
use Rattle.program_form.specs.Programs.{Program}
use Rattle.program_form.specs.Statements.{HasOpcode, NamesClass, NamesMember, NamesField}
use Rattle.program_form.specs.Facts.{NeedsClass}
use Rattle.program_form.proofs.Visits.{one_class}
use Rattle.constraint_form.specs.Variables.{Meaning}
use Rattle.constraint_form.proofs.Instructions.{one_member, one_class_name}
use Rattle.signature_tables.specs.Programs.{IsOfClasses}
use Rattle.constraint_rules.specs.One.{IsOne}
use Rattle.constraint_rules.specs.Needs.{IsClassOfField, IsClassFound, IsClassMade, IsClassOfStatic, IsClassCalled}
use Rattle.constraint_rules.specs.Settings.{IsSetting, IsPlaced, place_of}
use Rattle.constraint_rules.specs.declared.tables.Tables.{Tables}
use Rattle.constraint_rules.specs.declared.tables.Reachable.{Reachable}
use Rattle.constraint_rules.proofs.Ones.{none_of, some_of, one_same}
use Rattle.constraint_rules.proofs.OfKind.{kind_at, kind_here}
use Rattle.constraint_rules.proofs.OfNames.{named_here, key_here, class_named_here, class_name_here}
use Rattle.constraint_rules.proofs.MemberLists.{one_members}
use Rattle.constraint_rules.proofs.MethodsFound.{one_method}

same_class : (a b : ClassId) → a.0 ≡ b.0 → a ≡ b
same_class a b e = ap (λ k. record { 0 = k }) e

-- the class of the member of a number
abbrev pub IsClassAt : List Declared → ℕ → ClassId → Type 0
IsClassAt ds n c = (d : Declared) × (slice_get ds n ≡ Some d) × (c.0 ≡ d.class)

pub member_class : (ds : List Declared) (places : List (ClassId × ℕ)) (n : ℕ) (q : ClassId × ℕ) → map declared_at places ≡ ds → slice_get places n ≡ Some q → IsOne (IsClassAt ds n) (Some q.0)
member_class ds places n q same at = some_of (IsClassAt ds n) q.0 (declared_at q, here, refl) (λ c (d, is, e).
    same_class q.0 c (ap (λ (z : Declared). z.class) (same_Some (declared_at q) d (sym here ∙ is)) ∙ sym e))
  where
    here : slice_get ds n ≡ Some (declared_at q)
    here = subst (λ zs. slice_get zs n ≡ Some (declared_at q)) same (slice_get-map declared_at places n ∙ ap (λ o. option_map declared_at o) at)

pub no_member_class : (ds : List Declared) (places : List (ClassId × ℕ)) (n : ℕ) → map declared_at places ≡ ds → length places ≤ n → IsOne (IsClassAt ds n) None
no_member_class ds places n same le = none_of (IsClassAt ds n) (λ c (d, is, e). omega (arith, le, length-map places declared_at, slice_get_within (map declared_at places) n d (subst (λ zs. slice_get zs n ≡ Some d) (sym same) is)))

-- of a field that was found
pub found_class : (p : Program) (found : Option FieldId) (f : FieldId) (o : Option ClassId) → found ≡ Some f → IsOne (IsClassOfField p f) o
    → IsOne (λ (c : ClassId). (g : FieldId) × (found ≡ Some g) × IsClassOfField p g c) o
found_class p found f o e one = one_same (IsClassOfField p f) (λ (c : ClassId). (g : FieldId) × (found ≡ Some g) × IsClassOfField p g c) o
    (λ c h. (f, e, h)) (λ c (g, is, h). subst (λ z. IsClassOfField p z c) (sym (same_Some f g (sym e ∙ is))) h) one

pub no_found_class : (p : Program) (found : Option FieldId) → found ≡ None → IsOne (λ (c : ClassId). (g : FieldId) × (found ≡ Some g) × IsClassOfField p g c) None
no_found_class p found e = none_of (λ (c : ClassId). (g : FieldId) × (found ≡ Some g) × IsClassOfField p g c) (λ c (g, is, h). let z : None ≡ Some g = sym e ∙ is in cc z)

-- of the method that a search finds
module _ (classes : List ClassFile) (p : Program) (of : IsOfClasses classes p) (key : MemberKey) where
  once : (d e : Declared) → DeclaresMethod p.classes key d → DeclaresMethod p.classes key e → d.class ≡ e.class → d ≡ e
  once = subst (λ (ks : List ClassFile). (d e : Declared) → DeclaresMethod ks key d → DeclaresMethod ks key e → d.class ≡ e.class → d ≡ e) (sym of.classes_are) (of.methods_once key)

  one_found : (a b : Option Declared) → FindsMethod p.classes key a → FindsMethod p.classes key b → a ≡ b
  one_found a b x y = one_method p.classes of.read.classes key (λ d e x y s. once d e x y s) a b x y

  pub method_class : (m : MethodId) (o : Option ClassId) → IsFoundMethod classes key (Some m) → IsOne (λ (c : ClassId). (d : Declared) × (slice_get p.methods m.0 ≡ Some d) × (d.class ≡ c.0)) o
      → IsOne (IsClassFound p key) o
  method_class m o (d, finds, (methods, are, at)) one =
      one_same (λ (c : ClassId). (d : Declared) × (slice_get p.methods m.0 ≡ Some d) × (d.class ≡ c.0)) (IsClassFound p key) o to from one
    where
      here : FindsMethod p.classes key (Some d)
      here = subst (λ (ks : List ClassFile). FindsMethod ks key (Some d)) (sym of.classes_are) finds

      there : slice_get p.methods m.0 ≡ Some d
      there = subst (λ ds. slice_get ds m.0 ≡ Some d) (one_members classes (λ (k : ClassFile). k.methods) methods p.methods are of.methods_are) at

      to : (c : ClassId) → (e : Declared) × (slice_get p.methods m.0 ≡ Some e) × (e.class ≡ c.0) → IsClassFound p key c
      to c (e, is, same) = (e, subst (λ z. FindsMethod p.classes key (Some z)) (same_Some d e (sym there ∙ is)) here, sym same)

      from : (c : ClassId) → IsClassFound p key c → (e : Declared) × (slice_get p.methods m.0 ≡ Some e) × (e.class ≡ c.0)
      from c (e, found, same) = (e, there ∙ one_found (Some d) (Some e) here found, sym same)

  pub no_method_class : FindsMethod classes key None → IsOne (IsClassFound p key) None
  no_method_class finds = none_of (IsClassFound p key) (λ c (d, found, same).
      let z : None ≡ Some d = one_found None (Some d) (subst (λ (ks : List ClassFile). FindsMethod ks key None) (sym of.classes_are) finds) found in cc z)

module _ (t : Tables) (x : Reachable) (p : Program) (s : System) (names : List Meaning) (set : IsSetting t p s names) (placed : IsPlaced p x) where
  -- of the static field that the instruction names
  pub static_class : (found : Option FieldId) (o : Option ClassId) → IsOne (NamesField p (place_of x)) (Some found) → IsOne (λ (c : ClassId). (f : FieldId) × (found ≡ Some f) × IsClassOfField p f c) o
      → IsOne (IsClassOfStatic p (place_of x)) o
  static_class found o named one = one_same (λ (c : ClassId). (f : FieldId) × (found ≡ Some f) × IsClassOfField p f c) (IsClassOfStatic p (place_of x)) o
      (λ c (f, e, h). (f, (named (Some f)).1 (ap (λ z. Some z) e), h)) (λ c (f, h, is). (f, same_Some found (Some f) ((named (Some f)).0 h), is)) one

  pub no_static_class : IsOne (NamesField p (place_of x)) None → IsOne (IsClassOfStatic p (place_of x)) None
  no_static_class named = none_of (IsClassOfStatic p (place_of x)) (λ c (f, h, is). let z = (named (Some f)).0 h in cc z)

  -- of the method
  pub called_class : (key : MemberKey) (o : Option ClassId) → member_at x.file.now.pool x.instr.now.index ≡ Some key → IsOne (IsClassFound p key) o → IsOne (IsClassCalled p (place_of x)) o
  called_class key o e one = one_same (IsClassFound p key) (IsClassCalled p (place_of x)) o (λ c h. (key, member, h)) (λ c (other, m, h).
      subst (λ z. IsClassFound p z c) (one_member p set.of.read (place_of x) other key m member) h) one
    where
      member : NamesMember p (place_of x) key
      member = named_here t x p s names set placed key e

  pub no_called_class : member_at x.file.now.pool x.instr.now.index ≡ None → IsOne (IsClassCalled p (place_of x)) None
  no_called_class e = none_of (IsClassCalled p (place_of x)) (λ c (key, m, h). let z : None ≡ Some key = sym e ∙ key_here t x p s names set placed key m in cc z)

  -- the class that it names
  pub made_class : (text : List ℕ) (o : Option ClassId) → class_at x.file.now.pool x.instr.now.index ≡ Some text → MatchOption o (IsOutside t.h.now text) (λ c. IsNamed t.h.now text c.0)
      → IsOne (IsClassMade p (place_of x)) o
  made_class text o e found = of_match o found
    where
      named : NamesClass p (place_of x) text
      named = class_named_here t x p s names set placed text e

      same : (c : ClassId) → IsClassMade p (place_of x) c → IsNamed p.classes text c.0
      same c (other, n, is) = subst (λ z. IsNamed p.classes z c.0) (one_class_name p set.of.read (place_of x) other text n named) is

      of_match : (o : Option ClassId) → MatchOption o (IsOutside t.h.now text) (λ c. IsNamed t.h.now text c.0) → IsOne (IsClassMade p (place_of x)) o
      of_match None out = none_of (IsClassMade p (place_of x)) (λ c h. out c.0 (subst (λ (ks : List ClassFile). IsNamed ks text c.0) set.of.classes_are (same c h)))
      of_match (Some d) is =
          let here : IsNamed p.classes text d.0 = subst (λ (ks : List ClassFile). IsNamed ks text d.0) (sym set.of.classes_are) is in
          some_of (IsClassMade p (place_of x)) d (text, named, here) (λ c h. same_class d c (one_class p.classes text d.0 c.0 set.of.read.classes here (same c h)))

  pub no_made_class : class_at x.file.now.pool x.instr.now.index ≡ None → IsOne (IsClassMade p (place_of x)) None
  no_made_class e = none_of (IsClassMade p (place_of x)) (λ c (text, n, is). let z : None ≡ Some text = sym e ∙ class_name_here t x p s names set placed text n in cc z)

  -- an instruction needs a class by one rule
  abbrev Needed : ClassId → Type 0
  Needed c = NeedsClass p (place_of x) c.0

  is_kind : (K : ℕ → Type 0) → HasOpcode p (place_of x) K → K x.instr.now.op
  is_kind K h = kind_at t x p s names set placed K h

  has_kind : (K : ℕ → Type 0) → K x.instr.now.op → HasOpcode p (place_of x) K
  has_kind K h = kind_here t x p s names set placed K h

  abbrev IsStaticField : ℕ → Type 0
  IsStaticField op = IsGetStatic op ⊎ IsPutStatic op

  not_both : (op : ℕ) → IsNew op → IsStaticField op → ⊥
  not_both op e (inl f) = omega (arith, e, f)
  not_both op e (inr f) = omega (arith, e, f)

  nor_call : (op : ℕ) → IsStaticCall op → IsStaticField op → ⊥
  nor_call op e (inl f) = omega (arith, e, f)
  nor_call op e (inr f) = omega (arith, e, f)

  pub needed_new : (o : Option ClassId) → IsNew x.instr.now.op → IsOne (IsClassMade p (place_of x)) o → IsOne Needed o
  needed_new o is one = one_same (IsClassMade p (place_of x)) Needed o (λ c (text, n, h). inl (has_kind IsNew is, text, n, h)) from one
    where
      from : (c : ClassId) → Needed c → IsClassMade p (place_of x) c
      from c (inl (op, text, n, h)) = (text, n, h)
      from c (inr (inl (op, f, d, h, at, e))) = absurd (not_both x.instr.now.op is (is_kind IsStaticField op))
      from c (inr (inr (op, key, d, m, found, e))) = absurd (omega (arith, is, is_kind IsStaticCall op))

  pub needed_static : (o : Option ClassId) → IsStaticField x.instr.now.op → IsOne (IsClassOfStatic p (place_of x)) o → IsOne Needed o
  needed_static o is one = one_same (IsClassOfStatic p (place_of x)) Needed o (λ c (f, h, (d, at, e)). inr (inl (has_kind IsStaticField is, f, d, h, at, e))) from one
    where
      from : (c : ClassId) → Needed c → IsClassOfStatic p (place_of x) c
      from c (inl (op, text, n, h)) = absurd (not_both x.instr.now.op (is_kind IsNew op) is)
      from c (inr (inl (op, f, d, h, at, e))) = (f, h, (d, at, e))
      from c (inr (inr (op, key, d, m, found, e))) = absurd (nor_call x.instr.now.op (is_kind IsStaticCall op) is)

  pub needed_call : (o : Option ClassId) → IsStaticCall x.instr.now.op → IsOne (IsClassCalled p (place_of x)) o → IsOne Needed o
  needed_call o is one = one_same (IsClassCalled p (place_of x)) Needed o (λ c (key, m, (d, found, e)). inr (inr (has_kind IsStaticCall is, key, d, m, found, e))) from one
    where
      from : (c : ClassId) → Needed c → IsClassCalled p (place_of x) c
      from c (inl (op, text, n, h)) = absurd (omega (arith, is, is_kind IsNew op))
      from c (inr (inl (op, f, d, h, at, e))) = absurd (nor_call x.instr.now.op is (is_kind IsStaticField op))
      from c (inr (inr (op, key, d, m, found, e))) = (key, m, (d, found, e))

  pub needed_none : (IsNew x.instr.now.op → ⊥) → (IsStaticField x.instr.now.op → ⊥) → (IsStaticCall x.instr.now.op → ⊥) → IsOne Needed None
  needed_none not_new not_static not_call = none_of Needed never
    where
      never : (c : ClassId) → Needed c → ⊥
      never c (inl (op, text, n, h)) = not_new (is_kind IsNew op)
      never c (inr (inl (op, f, d, h, at, e))) = not_static (is_kind IsStaticField op)
      never c (inr (inr (op, key, d, m, found, e))) = not_call (is_kind IsStaticCall op)
