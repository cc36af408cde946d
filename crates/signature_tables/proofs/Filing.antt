-- The class files of methods.
use Rattle.std.proofs.Common.{◌≡◌, ◌<◌, ℕ, List, length, map, get_or, Some, refl, sym, ap, subst, ◌∙◌, arith}
use Rattle.std.specs.Prelude.{slice_get, option_map}
use Rattle.std.proofs.lemmas.Option.{slice_get_within, slice_get-get_or, slice_get-map, slice_get_read}
use Rattle.std.proofs.lemmas.List.{length-map}
use Rattle.std.proofs.lemmas.List.Elements.{All-contains}
use Rattle.slicer_ids.specs.declared.ids.ClassId.{ClassId}
use Rattle.slicer_ids.specs.declared.ids.MethodId.{MethodId}
use Rattle.class_form.specs.Classes.{Declared, IsMethod}
use Rattle.class_form.specs.Numbers.{AreMethods, IsThere}
use Rattle.class_form.specs.declared.class_file.ClassFile.{ClassFile}
use Rattle.class_form.proofs.Indices.{there_at}
use Rattle.hierarchy.specs.Places.{declared_at}
use Rattle.program_form.specs.Programs.{Program, ClassOf}
use Rattle.signature_tables.specs.Programs.{IsOfClasses}
use Rattle.signature_tables.proofs.OneMethod.{one_methods}

module _ (classes : List ClassFile) (places : List (ClassId × ℕ)) (are : AreMethods classes (map declared_at places)) where
  methods_are : (p : Program) → IsOfClasses classes p → p.methods ≡ map declared_at places
  methods_are p of = one_methods classes p.methods (map declared_at places) of.methods_are are

  pub place_within : (p : Program) → IsOfClasses classes p → (m : ℕ) → m < length p.methods → m < length places
  place_within p of m lt = omega (arith, lt, ap (λ (xs : List Declared). length xs) (methods_are p of), length-map places declared_at)

  place_at : (m : ℕ) (d : ClassId × ℕ) → m < length places → slice_get (map declared_at places) m ≡ Some (declared_at (get_or places m d))
  place_at m d lt = slice_get-map declared_at places m ∙ ap (λ o. option_map declared_at o) (slice_get-get_or places m d lt)

  pub class_within : (m : ℕ) (d : ClassId × ℕ) → m < length places → (get_or places m d).0.0 < length classes
  class_within m d lt =
      let here = there_at (map declared_at places) m (declared_at (get_or places m d)) (place_at m d lt) in
      let (x, n, e, (k, is, rest)) = All-contains (IsThere (IsMethod classes)) (map declared_at places) (declared_at (get_or places m d)) are.each here in
      slice_get_within classes (get_or places m d).0.0 k is

  pub class_of_method : (m : MethodId) (d : ClassId × ℕ) (file : ClassFile) → m.0 < length places → file ≡ get_or classes (get_or places m.0 d).0.0 file →
      (p : Program) → IsOfClasses classes p → (c : ℕ) × ClassOf p m c file
  class_of_method m d file lt e p of =
      let c = (get_or places m.0 d).0.0 in
      let is = slice_get_read classes (length classes) c file refl (class_within m.0 d lt) e in (
        c,
        (
          declared_at (get_or places m.0 d),
          subst (λ xs. slice_get xs m.0 ≡ Some (declared_at (get_or places m.0 d))) (sym (methods_are p of)) (place_at m.0 d lt),
          refl,
          subst (λ ks. slice_get ks c ≡ Some file) (sym of.classes_are) is,
        ),
      )
