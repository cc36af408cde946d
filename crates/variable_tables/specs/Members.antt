-- Methods and bodies by number.
use Rattle.std.specs.Prelude.{◌≡◌, ◌<◌, ℕ, List, All, AllPairs, Some, Contains, slice_get}
use Rattle.slicer_ids.specs.declared.ids.MethodId.{MethodId}
use Rattle.slicer_ids.specs.declared.ids.Statement.{Statement}
use Rattle.class_form.specs.Classes.{Declared, IsClass, IsDeclared}
use Rattle.class_form.specs.declared.class_file.ClassFile.{ClassFile}
use Rattle.class_form.specs.declared.class_file.Member.{Member}
use Rattle.class_form.specs.declared.body.Body.{Body}
use Rattle.program_form.specs.Programs.{Program}
use Rattle.signature_tables.specs.Statements.{AreInOrder}
use Rattle.variable_tables.specs.Statements.{AreFollowed, BodyHas}
use Rattle.variable_tables.specs.declared.kinds.Kind.{Kind}
use Rattle.variable_tables.specs.declared.kinds.Kind.TheVariants.{Calls}

-- the method of this number is this member of this class file
abbrev pub IsMethodAt : Program → MethodId → ClassFile → Member → Type 0
IsMethodAt p m k x =
    (d : Declared) × (name : List ℕ) × (descriptor : List ℕ) × (slice_get p.methods m.0 ≡ Some d) × IsClass p.classes d.class k
    × IsDeclared k k.methods name descriptor d.index x

abbrev pub MethodRises : Body → Body → Type 0
MethodRises a b = a.method.0 < b.method.0

-- one of the bodies is the method's
abbrev pub IsBodyMethod : List Body → MethodId → Type 0
IsBodyMethod bs m = (b : Body) × Contains bs b × (b.method ≡ m)

-- what is known of the bodies of a program: they are in order of method, and so are their instructions by program counter
pub record AreBodies (bs : List Body) : Type 0 where
  pub order : AllPairs MethodRises bs
  pub instrs : All (λ b. AreInOrder b.instrs) bs
  pub followed : AreFollowed bs

-- a statement of the kind stands at the program counter of the method
abbrev pub MethodHas : Kind → List Body → MethodId → ℕ → Type 0
MethodHas kind bs m pc = (b : Body) × Contains bs b × (b.method ≡ m) × BodyHas kind b pc

-- the statement is of the method, at one of the program counters
abbrev pub IsAmong : MethodId → List ℕ → Statement → Type 0
IsAmong m pcs t = (t.method ≡ m) × Contains pcs t.pc

-- a call of the body
abbrev pub IsCallIn : Body → Statement → Type 0
IsCallIn b t = (t.method ≡ b.method) × BodyHas Calls b t.pc
