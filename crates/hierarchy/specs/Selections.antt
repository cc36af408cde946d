-- What look-ups of fields and methods answer.
use Rattle.std.specs.Prelude.{◌≡◌, ℕ, List, slice_get, Option, Some, None}
use Rattle.slicer_ids.specs.declared.ids.FieldId.{FieldId}
use Rattle.slicer_ids.specs.declared.ids.MethodId.{MethodId}
use Rattle.class_form.specs.Pools.{MemberKey}
use Rattle.class_form.specs.Classes.{Declared, IsNamed}
use Rattle.class_form.specs.Numbers.{AreFields, AreMethods}
use Rattle.class_form.specs.Resolution.{FindsField, FindsMethod, Selects, IsAbstractMethod}
use Rattle.class_form.specs.declared.class_file.ClassFile.{ClassFile}
use Rattle.hierarchy.specs.declared.tree.Select.{Select}
use Rattle.hierarchy.specs.declared.tree.Select.TheVariants.{Folder, Abstract, Outside}

abbrev pub member_key : List ℕ → List ℕ → List ℕ → MemberKey
member_key class name descriptor = record { class = class; name = name; descriptor = descriptor }

-- the number of a field, of a method: its place among all of them in order
abbrev pub IsFieldNumber : List ClassFile → ℕ → Declared → Type 0
IsFieldNumber classes n d = (fields : List Declared) × AreFields classes fields × (slice_get fields n ≡ Some d)

abbrev pub IsMethodNumber : List ClassFile → ℕ → Declared → Type 0
IsMethodNumber classes n d = (methods : List Declared) × AreMethods classes methods × (slice_get methods n ≡ Some d)

-- the field that the search finds, or none where it finds none
abbrev pub IsFoundField : List ClassFile → MemberKey → Option FieldId → Type 0
IsFoundField classes key None = FindsField classes key None
IsFoundField classes key (Some n) = (d : Declared) × FindsField classes key (Some d) × IsFieldNumber classes n.0 d

-- the method that the search finds, or none where it finds none
abbrev pub IsFoundMethod : List ClassFile → MemberKey → Option MethodId → Type 0
IsFoundMethod classes key None = FindsMethod classes key None
IsFoundMethod classes key (Some n) = (d : Declared) × FindsMethod classes key (Some d) × IsMethodNumber classes n.0 d

-- what the class selects: a method that isn't abstract, one that is, or none
abbrev pub IsSelection : List ClassFile → ℕ → List ℕ → List ℕ → Select → Type 0
IsSelection classes c name descriptor (Folder m) =
    (class : List ℕ) × (d : Declared) × IsNamed classes class c × Selects classes class (member_key class name descriptor) (Some d)
    × (IsAbstractMethod classes d → ⊥) × IsMethodNumber classes m.0 d
IsSelection classes c name descriptor Abstract =
    (class : List ℕ) × (d : Declared) × IsNamed classes class c × Selects classes class (member_key class name descriptor) (Some d) × IsAbstractMethod classes d
IsSelection classes c name descriptor Outside =
    (class : List ℕ) × IsNamed classes class c × Selects classes class (member_key class name descriptor) None
