-- The code of a method, read: its instructions, its shape and its definitions, or its first fault.
use Rattle.std.specs.Prelude.{◌≡◌, ◌⊎◌, ◌≤◌, ◌+◌, ◌++◌, ◌∷◌, [], ℕ, List, Some, length, map, sum}
use Rattle.slicer_ids.specs.declared.ids.MethodId.{MethodId}
use Rattle.class_form.specs.Pools.{utf_at}
use Rattle.class_form.specs.Classes.{IsStatic}
use Rattle.class_form.specs.ClassRules.{IsCodeLength}
use Rattle.class_form.specs.Types.{IsMethodType, width}
use Rattle.class_form.specs.Instructions.{Instrs, FirstCodeFault}
use Rattle.class_form.specs.Shapes.{Shaped, BreaksFirst}
use Rattle.class_form.specs.Reaches.{IsReachOf}
use Rattle.class_form.specs.declared.pool.Pool.{Pool}
use Rattle.class_form.specs.declared.class_file.Member.{Member}
use Rattle.class_form.specs.declared.class_file.CodeBody.{CodeBody}
use Rattle.class_form.specs.declared.types.MethodType.{MethodType}
use Rattle.class_form.specs.declared.body.Instr.{Instr}
use Rattle.class_form.specs.declared.body.Body.{Body}
use Rattle.class_form.specs.declared.code_error.CodeError.{CodeError}
use Rattle.class_form.specs.declared.code_error.CodeError.TheVariants.{Broken}

-- the type that the method's descriptor spells
abbrev pub HasType : Pool → Member → MethodType → Type 0
HasType p m t = (text : List ℕ) × (utf_at p m.descriptor ≡ Some text) × IsMethodType text t

-- one slot for the receiver, which a static method has not
abbrev pub IsReceiver : ℕ → List ℕ → Type 0
IsReceiver flags slots = (IsStatic flags × (slots ≡ [])) ⊎ ((IsStatic flags → ⊥) × (slots ≡ 1 ∷ []))

-- the slots of each argument, the receiver's first
abbrev pub AreSlotsOf : Pool → Member → List ℕ → Type 0
AreSlotsOf p m slots =
    (t : MethodType) × HasType p m t × (receiver : List ℕ) × IsReceiver m.flags receiver × (slots ≡ receiver ++ map width t.arguments)

-- the arguments take at most 255 slots, and each has a local of its own
abbrev pub HasRoom : Pool → Member → ℕ → Type 0
HasRoom p m locals = (slots : List ℕ) × AreSlotsOf p m slots × (sum slots ≤ 255) × (sum slots ≤ locals)

-- what is known of each method with code in a class file that keeps the rules
pub record IsReadable (p : Pool) (m : Member) (code : CodeBody) : Type 0 where
  pub size : IsCodeLength (length code.code)
  pub room : HasRoom p m code.max_locals

-- the code's instructions, its shape with the arguments of the method, and the definitions that reach its slots
pub record IsBodyOf (p : Pool) (number : MethodId) (m : Member) (code : CodeBody) (b : Body) : Type 0 where
  pub method : b.method ≡ number
  pub instrs : Instrs code.code p b.instrs
  pub shape : (slots : List ℕ) × AreSlotsOf p m slots × Shaped code b.instrs slots b.shape
  pub reach : IsReachOf b.shape b.reach

-- the first fault of the code: that of its instructions or, where these are right, the first rule that its shape breaks
abbrev pub IsFirstFault : Pool → CodeBody → CodeError → Type 0
IsFirstFault p code fault =
    FirstCodeFault code.code p fault
    ⊎ ((instrs : List Instr) × Instrs code.code p instrs × (rule : ℕ) × (pc : ℕ) × BreaksFirst code instrs rule pc × (fault ≡ Broken rule pc))

-- with so many slots for its parameters, and one for a receiver, a method of these flags has room in so many locals
abbrev pub FitsIn : ℕ → ℕ → ℕ → Type 0
FitsIn slots flags locals = (receiver : List ℕ) × IsReceiver flags receiver × (sum receiver + slots ≤ 255) × (sum receiver + slots ≤ locals)
