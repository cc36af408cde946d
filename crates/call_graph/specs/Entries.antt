-- The methods by which a program starts.
use Rattle.std.specs.Prelude.{◌≡◌, ◌<◌, ℕ, true, List, Option, Some, None, Contains, slice_get, codes}
use Rattle.slicer_ids.specs.Sets.{IsOrderedListOf}
use Rattle.class_form.specs.Classes.{Declared, HasCode, IsMethod, IsNamed, IsPublic, IsStatic}
use Rattle.class_form.specs.Numbers.{AreMethods}
use Rattle.class_form.specs.declared.class_file.ClassFile.{ClassFile}
use Rattle.class_form.specs.declared.class_file.CodeBody.{CodeBody}
use Rattle.class_form.specs.declared.class_file.Member.{Member}
use Rattle.dep_form.specs.declared.rules.Entry.{Entry}

-- the class has the name, where one is given
abbrev pub IsChosen : List ClassFile → Option (List ℕ) → ℕ → Type 0
IsChosen classes None c = Unit {0}
IsChosen classes (Some name) c = IsNamed classes name c

-- a public static `main` that takes an array of strings and gives nothing back, with code, of a chosen class or interface
abbrev pub IsEntryMethod : List ClassFile → Option (List ℕ) → Declared → Type 0
IsEntryMethod classes main d =
    (m : Member) × (c : CodeBody) × IsMethod classes d m (codes "main") (codes "([Ljava/lang/String;)V")
    × IsPublic m.flags × IsStatic m.flags × HasCode m c × IsChosen classes main d.class

-- the entry is of such a method, by its number, and is given the arguments
abbrev pub IsEntry : List ClassFile → List Declared → Option (List ℕ) → Entry → Type 0
IsEntry classes methods main e = (e.arguments ≡ true) × (d : Declared) × (slice_get methods e.method.0 ≡ Some d) × IsEntryMethod classes main d

-- all entries, in order of their methods; there is one
pub record AreEntries (classes : List ClassFile) (main : Option (List ℕ)) (entries : List Entry) : Type 0 where
  pub each : (methods : List Declared) → AreMethods classes methods →
      IsOrderedListOf (λ (a : Entry) (b : Entry). a.method.0 < b.method.0) entries (IsEntry classes methods main)
  pub some : (e : Entry) × Contains entries e

-- no method is one
abbrev pub HasNoEntry : List ClassFile → Option (List ℕ) → Type 0
HasNoEntry classes main = (d : Declared) → IsEntryMethod classes main d → ⊥
