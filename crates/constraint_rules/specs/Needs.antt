-- The classes that statements need, and their initializers as code finds them.
use Rattle.std.specs.Prelude.{◌≡◌, ◌≤◌, ℕ, List, Some, Contains, slice_get}
use Rattle.slicer_ids.specs.declared.ids.ClassId.{ClassId}
use Rattle.slicer_ids.specs.declared.ids.FieldId.{FieldId}
use Rattle.slicer_ids.specs.declared.ids.MethodId.{MethodId}
use Rattle.slicer_ids.specs.declared.ids.Statement.{Statement}
use Rattle.class_form.specs.Pools.{MemberKey}
use Rattle.class_form.specs.Classes.{Declared, IsNamed}
use Rattle.class_form.specs.Resolution.{FindsMethod}
use Rattle.program_form.specs.Programs.{Program}
use Rattle.program_form.specs.Statements.{NamesClass, NamesMember, NamesField}

-- the class that declares the field of this number, the method that the search for a key finds
abbrev pub IsClassOfField : Program → FieldId → ClassId → Type 0
IsClassOfField p f c = (d : Declared) × (slice_get p.fields f.0 ≡ Some d) × (c.0 ≡ d.class)

abbrev pub IsClassFound : Program → MemberKey → ClassId → Type 0
IsClassFound p key c = (d : Declared) × FindsMethod p.classes key (Some d) × (c.0 ≡ d.class)

-- the class that the statement names, that of the field that it names, of the method that it names
abbrev pub IsClassMade : Program → Statement → ClassId → Type 0
IsClassMade p t c = (text : List ℕ) × NamesClass p t text × IsNamed p.classes text c.0

abbrev pub IsClassOfStatic : Program → Statement → ClassId → Type 0
IsClassOfStatic p t c = (f : FieldId) × NamesField p t (Some f) × IsClassOfField p f c

abbrev pub IsClassCalled : Program → Statement → ClassId → Type 0
IsClassCalled p t c = (key : MemberKey) × NamesMember p t key × IsClassFound p key c

-- initializers by class: an earlier one is of no later class
abbrev pub ComesBefore : ClassId × MethodId → ClassId × MethodId → Type 0
ComesBefore a b = a.0.0 ≤ b.0.0

-- the list has the method as an initializer of the class
abbrev pub IsListedOf : List (ClassId × MethodId) → ClassId → MethodId → Type 0
IsListedOf xs c m = Contains xs (c, m)
