-- Where the methods of a program stand, and how many methods and fields it has.
use Rattle.std.proofs.Common.{◌≡◌, ◌<◌, ℕ, List, length, map, get_or, Some, refl, sym, ap, subst, ◌∙◌}
use Rattle.std.specs.Prelude.{slice_get, option_map}
use Rattle.std.proofs.lemmas.List.{length-map}
use Rattle.std.proofs.lemmas.Option.{same_Some, slice_get_within, slice_get_read, slice_get-map, slice_get-get_or, get_or_from_slice_get}
use Rattle.std.proofs.lemmas.List.Elements.{All-contains}
use Rattle.slicer_ids.specs.declared.ids.ClassId.{ClassId}
use Rattle.slicer_ids.specs.declared.ids.MethodId.{MethodId}
use Rattle.class_form.specs.Classes.{Declared, IsDeclared, IsMethod}
use Rattle.class_form.specs.Numbers.{AreMethods, AreFields, IsThere}
use Rattle.class_form.specs.declared.class_file.ClassFile.{ClassFile}
use Rattle.class_form.specs.declared.class_file.Member.{Member}
use Rattle.class_form.specs.declared.body.Body.{Body}
use Rattle.class_form.proofs.Indices.{there_at}
use Rattle.hierarchy.specs.Places.{declared_at}
use Rattle.program_form.specs.Programs.{Program}
use Rattle.signature_tables.specs.Programs.{IsOfClasses}
use Rattle.signature_tables.specs.Statements.{HasMethod, HasBody}
use Rattle.variable_tables.specs.Members.{IsMethodAt}
use Rattle.variable_tables.proofs.OneMembers.{one_methods, one_fields}

-- there are as many fields as places
pub as_many_fields : (classes : List ClassFile) (places : List (ClassId × ℕ)) → AreFields classes (map declared_at places) → (p : Program) → IsOfClasses classes p → length p.fields ≡ length places
as_many_fields classes places are p of = ap (λ (ds : List Declared). length ds) (one_fields classes p.fields (map declared_at places) of.fields_are are) ∙ length-map places declared_at

-- the method of a body has a number
pub body_method : (classes : List ClassFile) (b : Body) → HasBody classes b → HasMethod classes b.method
body_method classes b (p, of, has) =
    let (c, (d, x, n, t, method, code)) = of.read.coded b has in
    (p, of, slice_get_within p.methods b.method.0 d method.0)

module _ (classes : List ClassFile) (places : List (ClassId × ℕ)) (are : AreMethods classes (map declared_at places)) where
  methods_are : (p : Program) → IsOfClasses classes p → p.methods ≡ map declared_at places
  methods_are p of = one_methods classes p.methods (map declared_at places) of.methods_are are

  -- there are as many methods as places
  pub as_many : (p : Program) → IsOfClasses classes p → length p.methods ≡ length places
  as_many p of = ap (λ (ds : List Declared). length ds) (methods_are p of) ∙ length-map places declared_at

  pub place_within : (m : MethodId) → HasMethod classes m → m.0 < length places
  place_within m (p, of, lt) = subst (λ n. m.0 < n) (as_many p of) lt

  place_there : (m : ℕ) (d : ClassId × ℕ) → m < length places → slice_get (map declared_at places) m ≡ Some (declared_at (get_or places m d))
  place_there m d lt = slice_get-map declared_at places m ∙ ap (λ o. option_map declared_at o) (slice_get-get_or places m d lt)

  -- what is declared at a place
  declared_there : (m : ℕ) (d : ClassId × ℕ) → m < length places → IsThere (IsMethod classes) (declared_at (get_or places m d))
  declared_there m d lt =
      All-contains (IsThere (IsMethod classes)) (map declared_at places) (declared_at (get_or places m d)) are.each
      (there_at (map declared_at places) m (declared_at (get_or places m d)) (place_there m d lt))

  -- its class
  pub class_within : (m : ℕ) (d : ClassId × ℕ) → m < length places → (get_or places m d).0.0 < length classes
  class_within m d lt = let (x, n, e, (k, is, rest)) = declared_there m d lt in slice_get_within classes (get_or places m d).0.0 k is

  file_there : (m : ℕ) (d : ClassId × ℕ) (k : ClassFile) → m < length places → k ≡ get_or classes (get_or places m d).0.0 k → slice_get classes (get_or places m d).0.0 ≡ Some k
  file_there m d k lt file = slice_get_read classes (length classes) (get_or places m d).0.0 k refl (class_within m d lt) file

  member_there : (m : ℕ) (d : ClassId × ℕ) (k : ClassFile) → m < length places → k ≡ get_or classes (get_or places m d).0.0 k
      → (x : Member) × (n : List ℕ) × (e : List ℕ) × IsDeclared k k.methods n e (get_or places m d).1 x
  member_there m d k lt file =
      let (x, n, e, (j, is, rest)) = declared_there m d lt in
      let same = same_Some j k (sym is ∙ file_there m d k lt file) in
      (x, n, e, subst (λ (z : ClassFile). IsDeclared z z.methods n e (get_or places m d).1 x) same rest)

  -- its place in the file of its class
  pub index_within : (m : ℕ) (d : ClassId × ℕ) (k : ClassFile) → m < length places → k ≡ get_or classes (get_or places m d).0.0 k → (get_or places m d).1 < length k.methods
  index_within m d k lt file = let (y, n, e, declared) = member_there m d k lt file in slice_get_within k.methods (get_or places m d).1 y declared.0

  pub method_there : (m : MethodId) (d : ClassId × ℕ) (k : ClassFile) (x : Member) → m.0 < length places → k ≡ get_or classes (get_or places m.0 d).0.0 k
      → x ≡ get_or k.methods (get_or places m.0 d).1 x → (p : Program) → IsOfClasses classes p → IsMethodAt p m k x
  method_there m d k x lt file item p of =
      let place = get_or places m.0 d in
      let (y, n, e, declared) = member_there m.0 d k lt file in
      let same : y ≡ x = sym (item ∙ get_or_from_slice_get k.methods place.1 y x declared.0) in (
        declared_at place,
        n,
        e,
        subst (λ ds. slice_get ds m.0 ≡ Some (declared_at place)) (sym (methods_are p of)) (place_there m.0 d lt),
        subst (λ ks. slice_get ks place.0.0 ≡ Some k) (sym of.classes_are) (file_there m.0 d k lt file),
        subst (λ z. IsDeclared k k.methods n e place.1 z) same declared,
      )
