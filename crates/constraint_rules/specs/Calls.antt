-- Methods that are abstract, and what a static or special call finds, abstract or not.
use Rattle.std.specs.Prelude.{◌≡◌, ◌⊎◌, ℕ, List, Some, slice_get}
use Rattle.slicer_ids.specs.declared.ids.MethodId.{MethodId}
use Rattle.slicer_ids.specs.declared.ids.Statement.{Statement}
use Rattle.class_form.specs.Pools.{MemberKey}
use Rattle.class_form.specs.Opcodes.{IsStaticCall, IsSpecialCall}
use Rattle.class_form.specs.Classes.{Declared, IsClass, IsAbstract}
use Rattle.class_form.specs.Resolution.{FindsMethod, SpecialCalls, IsAbstractMethod}
use Rattle.class_form.specs.declared.class_file.ClassFile.{ClassFile}
use Rattle.class_form.specs.declared.class_file.Member.{Member}
use Rattle.program_form.specs.Programs.{Program, ClassOf}
use Rattle.program_form.specs.Statements.{HasOpcode, NamesMember}

-- an abstract method stands at the place
abbrev pub IsAbstractAt : List ClassFile → Declared → Type 0
IsAbstractAt classes d = (k : ClassFile) × IsClass classes d.class k × ((m : Member) × (slice_get k.methods d.index ≡ Some m) × IsAbstract m.flags)

-- the number of an abstract method
abbrev pub IsAbstractNumber : Program → MethodId → Type 0
IsAbstractNumber p m = (d : Declared) × (slice_get p.methods m.0 ≡ Some d) × IsAbstractMethod p.classes d

-- the number is of no abstract method
abbrev pub IsConcreteNumber : Program → MethodId → Type 0
IsConcreteNumber p m = (d : Declared) → slice_get p.methods m.0 ≡ Some d → IsAbstractMethod p.classes d → ⊥

-- the number of a method of which D holds
abbrev pub IsNumberOf : Program → (Declared → Type 0) → MethodId → Type 0
IsNumberOf p D m = (d : Declared) × D d × (slice_get p.methods m.0 ≡ Some d)

-- the method that the search for a key finds
abbrev pub IsMethodFound : Program → MemberKey → Declared → Type 0
IsMethodFound p key d = FindsMethod p.classes key (Some d)

-- the statement calls it
abbrev pub IsCalledBy : Program → Statement → Declared → Type 0
IsCalledBy p t d =
    (key : MemberKey) × NamesMember p t key
    × ((HasOpcode p t IsStaticCall × IsMethodFound p key d)
    ⊎ (HasOpcode p t IsSpecialCall × (c : ℕ) × (k : ClassFile) × ClassOf p t.method c k × SpecialCalls p.classes c key d))
