-- What searches for fields and methods find, by numbers.
use Rattle.std.specs.Prelude.{◌≡◌, ◌<◌, ℕ, List, [], ◌++◌, slice_get, Option, Some, None}
use Rattle.class_form.specs.Classes.{Declared, IsClass, IsNamed, IsPrivate, IsStatic, IsAbstract}
use Rattle.class_form.specs.Resolution.{FirstIn, InterfacesOf, FindsField, FindsMethod}
use Rattle.class_form.specs.declared.class_file.ClassFile.{ClassFile}
use Rattle.class_form.specs.declared.class_file.Member.{Member}
use Rattle.slicer_ids.specs.declared.ids.ClassId.{ClassId}
use Rattle.hierarchy.specs.declared.look_up.Wanted.{Wanted}
use Rattle.hierarchy.specs.declared.look_up.Wanted.TheVariants.{Declaration, Instance}
use Rattle.hierarchy.specs.declared.members.Kind.TheVariants.{Method}
use Rattle.hierarchy.specs.Names.{SuperChain}
use Rattle.hierarchy.specs.Places.{Declares, declared_at}
use Rattle.hierarchy.specs.Trees.{Fits}
use Rattle.hierarchy.specs.Visits.{IsFirst, IsOneOf}

-- what a search finds, by its place in a list
abbrev pub FindsNumber : (Option Declared → Type 0) → List (ClassId × ℕ) → Option ℕ → Type 0
FindsNumber Finds places None = Finds None
FindsNumber Finds places (Some n) = (p : ClassId × ℕ) × (slice_get places n ≡ Some p) × Finds (Some (declared_at p))

-- the method at this place has these flags
abbrev pub HasFlags : List ClassFile → ClassId × ℕ → ℕ → Type 0
HasFlags classes p flags = (k : ClassFile) × (m : Member) × IsClass classes p.0.0 k × (slice_get k.methods p.1 ≡ Some m) × (m.flags ≡ flags)

-- the method of this number is neither private nor static
abbrev pub IsInstance : List ClassFile → List (ClassId × ℕ) → ℕ → Type 0
IsInstance classes places n =
    (p : ClassId × ℕ) × (flags : ℕ) × (slice_get places n ≡ Some p) × HasFlags classes p flags × (IsPrivate flags → ⊥) × (IsStatic flags → ⊥)

-- .. or that isn't asked
abbrev pub IsWanted : Wanted → List ClassFile → List (ClassId × ℕ) → ℕ → Type 0
IsWanted Declaration classes places n = Unit {0}
IsWanted Instance classes places n = IsInstance classes places n

abbrev pub IsAbstractAt : List ClassFile → List (ClassId × ℕ) → ℕ → Type 0
IsAbstractAt classes places n = (p : ClassId × ℕ) × (flags : ℕ) × (slice_get places n ≡ Some p) × HasFlags classes p flags × IsAbstract flags

-- the method of this number is what is wanted of the class
abbrev pub IsFitting : Wanted → List ClassFile → List (ClassId × ℕ) → List ℕ → List ℕ → ℕ → ℕ → Type 0
IsFitting wanted classes places name descriptor c n =
    (p : ClassId × ℕ) × (slice_get places n ≡ Some p) × (p.0.0 ≡ c) × Fits wanted classes name descriptor (declared_at p)

-- the class declares nothing that is wanted
abbrev pub FitsNone : Wanted → List ClassFile → List ℕ → List ℕ → ℕ → Type 0
FitsNone wanted classes name descriptor c = (d : Declared) → d.class ≡ c → Fits wanted classes name descriptor d → ⊥

-- the first that is wanted, from a class upwards
abbrev pub Upwards : Wanted → List ClassFile → List ℕ → List ℕ → ℕ → Option Declared → Type 0
Upwards wanted classes name descriptor c found = (cs : List ℕ) × SuperChain classes (Some c) cs × FirstIn (Fits wanted classes name descriptor) cs found

-- the first class with one of some members among the superinterfaces of a class, then of its superclasses
abbrev pub BesideUpwards : List ClassFile → List (ClassId × ℕ) → ℕ → Option ℕ → Type 0
BesideUpwards classes places c found =
    (cs : List ℕ) → SuperChain classes (Some c) cs → (is : List ℕ) × InterfacesOf classes cs is × IsFirst (IsOneOf places) is found

-- the method that is found there
abbrev pub MethodBeside : List ClassFile → List ℕ → List ℕ → ℕ → Option Declared → Type 0
MethodBeside classes name descriptor c found =
    (cs : List ℕ) → SuperChain classes (Some c) cs → (is : List ℕ) × InterfacesOf classes cs is × FirstIn (Declares Method classes name descriptor) is found

-- the field, the method that a search from a class finds
abbrev pub FieldFrom : List ClassFile → List ℕ → List ℕ → ℕ → Option Declared → Type 0
FieldFrom classes name descriptor c found =
    (class : List ℕ) → IsNamed classes class c → FindsField classes (record { class = class; name = name; descriptor = descriptor }) found

abbrev pub MethodFrom : List ClassFile → List ℕ → List ℕ → ℕ → Option Declared → Type 0
MethodFrom classes name descriptor c found =
    (class : List ℕ) → IsNamed classes class c → FindsMethod classes (record { class = class; name = name; descriptor = descriptor }) found
