-- Descriptors of methods with a result, and without.
use Rattle.std.proofs.Common.{◌≡◌, ◌≢◌, ◌↔◌, ◌<◌, ◌-◌, ◌+◌, ◌++◌, ℕ, Bool, true, false, not, List, [], ◌∷◌, replicate, length, length-append, map, Option, Some, None, Contains, inl, inr, refl, sym, ap, subst, ◌∙◌, append_assoc, arith}
use Rattle.std.specs.Prelude.{slice_get, unwrap_or}
use Rattle.std.specs.Option.{option_map_or}
use Rattle.std.proofs.lemmas.List.Elements.{All-contains}
use Rattle.std.proofs.lemmas.Option.{same_Some}
use Rattle.slicer_ids.specs.declared.ids.ClassId.{ClassId}
use Rattle.slicer_ids.specs.declared.ids.MethodId.{MethodId}
use Rattle.class_form.specs.Classes.{Declared, IsMethod}
use Rattle.class_form.specs.Numbers.{IsThere, AreMethods}
use Rattle.class_form.specs.Types.{IsBase, IsMethodType, IsResult, spell_base, spell_method, spell_result, spell_type, spell_types}
use Rattle.class_form.specs.declared.class_file.ClassFile.{ClassFile}
use Rattle.class_form.specs.declared.class_file.Member.{Member}
use Rattle.class_form.specs.declared.types.BaseType.{BaseType}
use Rattle.class_form.specs.declared.types.BaseType.TheVariants.{Primitive, Class}
use Rattle.class_form.specs.declared.types.FieldType.{FieldType}
use Rattle.class_form.specs.declared.types.MethodType.{MethodType}
use Rattle.class_form.proofs.DescriptorsRead.{is_letter-Decides, letter_is}
use Rattle.class_form.proofs.Indices.{there_at}
use Rattle.hierarchy.specs.Places.{declared_at, descriptor_in, text_bytes, texts_at}
use Rattle.hierarchy.specs.declared.members.Kind.TheVariants.{Method}
use Rattle.program_form.specs.Programs.{Program, MethodOf, TypeOf}
use Rattle.program_code.specs.Codes.{IsProgramOfCode}
use Rattle.constraint_form.specs.Asked.{IsReadProgram}
use Rattle.fact_form.specs.NodeNumbers.{IsAnswering}
use Rattle.fact_form.proofs.ItemLists.{join_right, map_at, mapped}
use Rattle.method_facts.proofs.MethodNumbers.{one_numbering}

-- the last byte of some bytes
abbrev Ends : List ℕ → Type 0 → Type 0
Ends bytes P = (front : List ℕ) × (b : ℕ) × (bytes ≡ front ++ b ∷ []) × ((b ≡ 86) ↔ P)

last_of : (front : List ℕ) (b : ℕ) (bytes : List ℕ) → bytes ≡ front ++ b ∷ [] → slice_get bytes (length bytes - 1) ≡ Some b
last_of front b bytes e =
    let n : length bytes - 1 ≡ length front + 0 = omega (arith, ap (λ (xs : List ℕ). length xs) e, length-append front (b ∷ [])) in
    subst (λ (xs : List ℕ). slice_get xs (length bytes - 1) ≡ Some b) (sym e) (join_right front (b ∷ []) 0 (length bytes - 1) b n refl)

base_ends : (base : BaseType) → IsBase base → (front : List ℕ) × (b : ℕ) × (spell_base base ≡ front ++ b ∷ []) × (b ≢ 86)
base_ends (Primitive letter) is = ([], letter, refl, (letter_is letter ((is_letter-Decides letter).1 is)).3)
base_ends (Class name) is = (76 ∷ name, 59, refl, λ e. omega (arith, e))

result_ends : (r : Option FieldType) → IsResult r → Ends (spell_result r) (r ≡ None)
result_ends None is = ([], 86, refl, (λ e. refl, λ e. refl))
result_ends (Some t) is =
    let (front, b, e, never) = base_ends t.base is.0 in
    (replicate t.dims 91 ++ front, b, ap (λ (xs : List ℕ). replicate t.dims 91 ++ xs) e ∙ sym (append_assoc (replicate t.dims 91) front (b ∷ [])), (λ h. absurd (never h), λ h. absurd (cc h)))

-- a method type ends so exactly where it has no result
pub type_ends : (bytes : List ℕ) (t : MethodType) → IsMethodType bytes t → (slice_get bytes (length bytes - 1) ≡ Some 86) ↔ (t.result ≡ None)
type_ends bytes t is =
    let (front, b, e, at) = result_ends t.result is.2 in
    let whole : bytes ≡ (40 ∷ spell_types t.arguments ++ 41 ∷ front) ++ b ∷ [] =
    is.3 ∙ ap (λ (xs : List ℕ). 40 ∷ spell_types t.arguments ++ 41 ∷ xs) e ∙ sym (append_assoc (40 ∷ spell_types t.arguments) (41 ∷ front) (b ∷ [])) in
    let last = last_of (40 ∷ spell_types t.arguments ++ 41 ∷ front) b bytes whole in
    (λ h. at.0 (same_Some b 86 (sym last ∙ h)), λ h. last ∙ ap (λ (n : ℕ). Some n) (at.1 h))

pub no_void : (b : Bool) → (b ≡ true → ⊥) → not b ≡ true
no_void true h = absurd (h refl)
no_void false h = refl

pub was_no_void : (b : Bool) → not b ≡ true → b ≡ true → ⊥
was_no_void true h e = absurd (cc h)
was_no_void false h e = absurd (cc e)

module _ (classes : List ClassFile) (places : List (ClassId × ℕ)) (number : AreMethods classes (map declared_at places)) (m : MethodId) (p : Program) (same : p.classes ≡ classes) (asked : IsReadProgram p) (coded : IsProgramOfCode p) where
  numbering : map declared_at places ≡ p.methods
  numbering = one_numbering p.classes (map declared_at places) p.methods (subst (λ (ks : List ClassFile). AreMethods ks (map declared_at places)) (sym same) number) coded.methods

  -- a method without a place has no number
  pub no_answer : slice_get places m.0 ≡ None → IsAnswering p m → ⊥
  no_answer none (t, u, (d, x, name, bytes, (at, is), type), e) =
      let here = mapped declared_at places m.0 d (subst (λ (ds : List Declared). slice_get ds m.0 ≡ Some d) (sym numbering) at) in
      absurd (cc (sym none ∙ here.1))

  module _ (place : ClassId × ℕ) (at_place : slice_get places m.0 ≡ Some place) where
    here : slice_get (map declared_at places) m.0 ≡ Some (declared_at place)
    here = map_at declared_at places m.0 place at_place

    -- the descriptor that stands there
    descriptor_is : (x : Member) (name descriptor : List ℕ) → IsMethod classes (declared_at place) x name descriptor → (texts_at Method classes place).descriptor ≡ descriptor
    descriptor_is x name descriptor (k, class, (is, other, text)) =
        ap (λ (o : Option ClassFile). option_map_or (λ (z : ClassFile). descriptor_in Method z place.1) o []) class
        ∙ ap (λ (o : Option Member). option_map_or (λ (z : Member). text_bytes k.pool z.descriptor) o []) is
        ∙ ap (λ (o : Option (List ℕ)). unwrap_or o []) text

    some_result : (r : Option FieldType) → (r ≡ None → ⊥) → (u : FieldType) × (r ≡ Some u)
    some_result None h = absurd (h refl)
    some_result (Some u) h = (u, refl)

    module _ (void : Bool) (is_void : (void ≡ true) ↔ (slice_get (texts_at Method classes place).descriptor (length (texts_at Method classes place).descriptor - 1) ≡ Some 86)) where
      ends : (bytes : List ℕ) → (texts_at Method classes place).descriptor ≡ bytes → (void ≡ true) ↔ (slice_get bytes (length bytes - 1) ≡ Some 86)
      ends bytes e = subst (λ (bs : List ℕ). (void ≡ true) ↔ (slice_get bs (length bs - 1) ≡ Some 86)) e is_void

      pub answers : (not void ≡ true) ↔ IsAnswering p m
      answers = (
        λ h.
            let w = All-contains (IsThere (IsMethod classes)) (map declared_at places) (declared_at place) number.each (there_at (map declared_at places) m.0 (declared_at place) here) in
            let method : MethodOf p m (declared_at place) w.0 w.1 w.2 =
            (subst (λ (ds : List Declared). slice_get ds m.0 ≡ Some (declared_at place)) numbering here, subst (λ (ks : List ClassFile). IsMethod ks (declared_at place) w.0 w.1 w.2) (sym same) w.3) in
            let type = asked.types m (declared_at place) w.0 w.1 w.2 method in
            let e = ends w.2 (descriptor_is w.0 w.1 w.2 w.3) in
            let u = some_result type.0.result (λ none. was_no_void void h (e.1 ((type_ends w.2 type.0 type.1).1 none))) in
            (type.0, u.0, (declared_at place, w.0, w.1, w.2, method, type.1), u.1),
        back,
      )
        where
          back : IsAnswering p m → not void ≡ true
          back (t, u, (d, x, name, bytes, (at, is), type), e) =
              let at_here : slice_get p.methods m.0 ≡ Some (declared_at place) = subst (λ (ds : List Declared). slice_get ds m.0 ≡ Some (declared_at place)) numbering here in
              let one : d ≡ declared_at place = same_Some d (declared_at place) (sym at ∙ at_here) in
              let mine : IsMethod classes (declared_at place) x name bytes = subst (λ (ks : List ClassFile). IsMethod ks (declared_at place) x name bytes) same (subst (λ (z : Declared). IsMethod p.classes z x name bytes) one is) in
              let f = ends bytes (descriptor_is x name bytes mine) in
              no_void void (λ v. let none = (type_ends bytes t type).0 (f.0 v) in absurd (cc (sym none ∙ e)))
