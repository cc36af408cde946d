-- The numbers of classes, methods and fields, and what is asked of class files before they are numbered.
use Rattle.std.specs.Prelude.{◌≡◌, ◌⊎◌, ◌<◌, ◌^◌, ℕ, List, length, Some, All, AllPairs}
use Rattle.slicer_ids.specs.Sets.{IsOrderedListOf}
use Rattle.slicer_ids.specs.Order.{BytesBefore}
use Rattle.class_form.specs.Pools.{utf_at}
use Rattle.class_form.specs.Classes.{class_name, Declared, IsMethod, IsField}
use Rattle.class_form.specs.declared.pool.Pool.{Pool}
use Rattle.class_form.specs.declared.class_file.ClassFile.{ClassFile}
use Rattle.class_form.specs.declared.class_file.Member.{Member}

-- by class, then by the bytes of the name, then by those of the descriptor; Is says what stands where
abbrev pub MemberBefore : (Declared → Member → List ℕ → List ℕ → Type 0) → Declared → Declared → Type 0
MemberBefore Is a b =
    (x : Member) × (n : List ℕ) × (d : List ℕ) × (y : Member) × (o : List ℕ) × (e : List ℕ) × Is a x n d × Is b y o e
    × ((a.class < b.class) ⊎ ((a.class ≡ b.class) × (BytesBefore n o ⊎ ((n ≡ o) × BytesBefore d e))))

-- some member stands there
abbrev pub IsThere : (Declared → Member → List ℕ → List ℕ → Type 0) → Declared → Type 0
IsThere Is a = (x : Member) × (n : List ℕ) × (d : List ℕ) × Is a x n d

-- the methods of the classes, by number
abbrev pub AreMethods : List ClassFile → List Declared → Type 0
AreMethods classes methods = IsOrderedListOf (MemberBefore (IsMethod classes)) methods (IsThere (IsMethod classes))

-- the fields of the classes, by number
abbrev pub AreFields : List ClassFile → List Declared → Type 0
AreFields classes fields = IsOrderedListOf (MemberBefore (IsField classes)) fields (IsThere (IsField classes))

-- the member has a name and a descriptor
abbrev pub HasTexts : Pool → Member → Type 0
HasTexts p m = (n : List ℕ) × (d : List ℕ) × (utf_at p m.name ≡ Some n) × (utf_at p m.descriptor ≡ Some d)

-- no two of the members have one name and descriptor
abbrev pub AreApart : Pool → List Member → Type 0
AreApart p ms = AllPairs (λ (a : Member) (b : Member). (utf_at p a.name ≡ utf_at p b.name) × (utf_at p a.descriptor ≡ utf_at p b.descriptor) → ⊥) ms

-- what numbering asks of a class file; each that is well formed has it
pub record IsNamedClass (k : ClassFile) : Type 0 where
  pub named : (name : List ℕ) × (class_name k ≡ Some name)
  pub field_count : length k.fields < 2 ^ 16
  pub method_count : length k.methods < 2 ^ 16
  pub fields : All (HasTexts k.pool) k.fields
  pub methods : All (HasTexts k.pool) k.methods
  pub apart_fields : AreApart k.pool k.fields
  pub apart_methods : AreApart k.pool k.methods
