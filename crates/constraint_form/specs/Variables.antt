-- The variables of a system of constraints, and what each stands for.
use Rattle.std.specs.Prelude.{◌≡◌, ◌≢◌, ◌⊎◌, ◌<◌, ℕ, List, AllPairs, Contains, Some, length, slice_get}
use Rattle.slicer_ids.specs.declared.ids.Statement.{Statement}
use Rattle.class_form.specs.Opcodes.{IsLoad, IsStore, IsReferenceLoad, IsReferenceStore, IsArrayLoad, IsArrayStore, IsArrayLength, IsCheckCast, IsGetStatic, IsGetField, IsPutField, IsThrow, IsCall}
use Rattle.class_form.specs.declared.class_file.CodeBody.{CodeBody}
use Rattle.class_form.specs.declared.class_file.Handler.{Handler}
use Rattle.class_form.specs.declared.body.Def.{Def}
use Rattle.dep_form.specs.declared.rules.Var.{Var}
use Rattle.dep_form.specs.declared.system.System.{System}
use Rattle.program_form.specs.Programs.{Program, CodeOf, HasFormal}
use Rattle.program_form.specs.Statements.{HasOpcode, OperandIs}
use Rattle.program_form.specs.Facts.{Variable, ValueOf, ArgumentOf, ResultOf, ThrownBy, CaughtAt, ExceptionOf, StaticField, StaticNamed, variable_of, IsAllocation}
use Rattle.program_form.specs.Nodes.{HasArgument}
use Rattle.program_form.specs.Systems.{IsForeignStatic, VariableNumber}

-- an instruction whose value may be an object: an allocation, a load or a store, a cast, a read, a call
abbrev pub MakesObject : ℕ → Type 0
MakesObject op =
    IsAllocation op ⊎ (IsLoad op ⊎ (IsStore op ⊎ (IsCheckCast op ⊎ (IsGetField op ⊎ (IsReferenceLoad op ⊎ (IsGetStatic op ⊎ IsCall op))))))

-- the variables of a program: of each statement whose value may be an object; of each argument of a method, its result and what it
-- throws; of each of its handlers; of each call; of each field of the folder, static or not, and of each static field that statements
-- name and the folder doesn't have
abbrev pub IsVariable : Program → Variable → Type 0
IsVariable p (ValueOf t) = HasOpcode p t MakesObject
IsVariable p (ArgumentOf m i) = HasFormal p m i
IsVariable p (ResultOf m) = m.0 < length p.methods
IsVariable p (ThrownBy m) = m.0 < length p.methods
IsVariable p (CaughtAt m pc) = (c : CodeBody) × (h : Handler) × CodeOf p m c × Contains c.handlers h × (h.handler ≡ pc)
IsVariable p (ExceptionOf t) = HasOpcode p t IsCall
IsVariable p (StaticField f) = f.0 < length p.fields
IsVariable p (StaticNamed name descriptor) = IsForeignStatic p (name, descriptor)

-- an instruction that reaches through its first operand, an object or array, or throws it
abbrev pub ReadsFirst : ℕ → Type 0
ReadsFirst op = IsGetField op ⊎ (IsPutField op ⊎ (IsArrayLoad op ⊎ (IsArrayStore op ⊎ (IsArrayLength op ⊎ IsThrow op))))

-- a rule reads this operand as an object, and not only to copy it: the object or array that is reached through, what is stored
-- there, what is thrown, and each argument of a call
abbrev pub ReadsObject : Program → Statement → ℕ → Type 0
ReadsObject p t i =
    ((i ≡ 0) × HasOpcode p t ReadsFirst)
    ⊎ (((i ≡ 1) × HasOpcode p t IsPutField) ⊎ (((i ≡ 2) × HasOpcode p t IsReferenceStore) ⊎ HasArgument p t i))

-- what a variable of a system stands for: a variable of the program, or what an operand of a statement may be
pub data Meaning : Type 0 where
  Named : (v : Variable) → Meaning
  Operand : (t : Statement) → (i : ℕ) → Meaning

-- the variable of this number stands for that
abbrev pub StandsFor : List Meaning → Var → Meaning → Type 0
StandsFor names x a = slice_get names x.0 ≡ Some a

-- the number of the variable that says what an operand may be: the variable of its definition, where one alone holds there and has
-- a number; else a variable of its own
pub data OperandNumber (p : Program) (s : System) (names : List Meaning) (t : Statement) (i : ℕ) : Var → Type 0 where
  of_definition : {d : Def} {x : Var} → OperandIs p t i d → ((e : Def) → OperandIs p t i e → e ≡ d) → VariableNumber p s (variable_of t.method d) x →
      OperandNumber p s names t i x
  of_operand : {x : Var} → StandsFor names x (Operand t i) → OperandNumber p s names t i x

-- the list says of each variable, by number, what it stands for, and no two stand for one thing: the tables give each variable of the
-- program its number, and an operand that is read as an object has one: one of its own only where no definition gives it one
pub record AreVariables (p : Program) (s : System) (names : List Meaning) : Type 0 where
  pub count : s.vars ≡ length names
  pub once : AllPairs (λ (a b : Meaning). a ≢ b) names
  pub numbers : (v : Variable) (x : Var) → VariableNumber p s v x → StandsFor names x (Named v)
  pub whole : (v : Variable) → IsVariable p v → (x : Var) × VariableNumber p s v x
  pub named : (v : Variable) → Contains names (Named v) → IsVariable p v
  pub operands : (t : Statement) (i : ℕ) → ReadsObject p t i → (x : Var) × OperandNumber p s names t i x
  pub read : (t : Statement) (i : ℕ) → Contains names (Operand t i) → ReadsObject p t i
  pub apart : (t : Statement) (i : ℕ) (d : Def) (x : Var) → Contains names (Operand t i) → OperandIs p t i d → ((e : Def) → OperandIs p t i e → e ≡ d) →
      VariableNumber p s (variable_of t.method d) x → ⊥
