-- The constraints of a program: for each rule of the points-to facts the constraints that say it by numbers.
use Rattle.std.specs.Prelude.{◌≡◌, ◌⊎◌, ℕ, suc, true, List, Option, Some, None, Contains}
use Rattle.slicer_ids.specs.declared.ids.ClassId.{ClassId}
use Rattle.slicer_ids.specs.declared.ids.MethodId.{MethodId}
use Rattle.slicer_ids.specs.declared.ids.SiteId.{SiteId}
use Rattle.slicer_ids.specs.declared.ids.FieldId.{FieldId}
use Rattle.slicer_ids.specs.declared.ids.CallId.{CallId}
use Rattle.slicer_ids.specs.declared.ids.Statement.{Statement}
use Rattle.class_form.specs.Pools.{MemberKey}
use Rattle.class_form.specs.Opcodes.{IsLoad, IsStore, IsReferenceLoad, IsReferenceStore, IsValueReturn, IsGetStatic, IsPutStatic, IsGetField, IsPutField, IsCall, IsVirtualCall, IsSpecialCall, IsStaticCall, IsThrow, IsCheckCast}
use Rattle.class_form.specs.Classes.{IsNamed, IsOutside}
use Rattle.class_form.specs.declared.class_file.ClassFile.{ClassFile}
use Rattle.class_form.specs.declared.class_file.Handler.{Handler}
use Rattle.class_form.specs.declared.body.Def.{Def}
use Rattle.dep_form.specs.declared.rules.Entry.{Entry}
use Rattle.dep_form.specs.declared.rules.Var.{Var}
use Rattle.dep_form.specs.declared.rules.Rule.{Rule}
use Rattle.dep_form.specs.declared.rules.Rule.TheVariants.{Enter, Alloc, Hold, Copy, Load, Store, Direct, Virtual, OutsideDirect}
use Rattle.dep_form.specs.declared.system.System.{System}
use Rattle.dep_form.specs.Constraints.{elements_field}
use Rattle.program_form.specs.Programs.{Program, IsRoot, ClassOf, Initializes}
use Rattle.program_form.specs.Statements.{HasOpcode, OperandIs, NamesClass, NamesMember, NamesField, IsCovered, MayLeave, Catches}
use Rattle.program_form.specs.Sites.{Made, OfRoot}
use Rattle.program_form.specs.Facts.{Variable, ValueOf, ArgumentOf, ResultOf, ThrownBy, CaughtAt, ExceptionOf, variable_of, field_name, IsStaticVariable, IsAllocation, NeedsClass, GoesTo, IsNotFound}
use Rattle.program_form.specs.Systems.{SiteNumber, FieldNumber, CallNumber, VariableNumber}
use Rattle.constraint_form.specs.Variables.{Meaning, Operand, StandsFor, OperandNumber}
use Rattle.constraint_form.specs.Signatures.{SignatureNumber}

-- the class that is kept where a cast or a handler names this one: itself, where it is of the folder; a class outside filters nothing
abbrev pub IsFilter : Program → List ℕ → Option ClassId → Type 0
IsFilter p text None = IsOutside p.classes text
IsFilter p text (Some c) = IsNamed p.classes text c.0

-- the same for an entry of the exception table, which may catch all
abbrev pub IsHandlerFilter : Program → Statement → Handler → Option ClassId → Type 0
IsHandlerFilter p t handler keep =
    ((handler.catch_type ≡ 0) × (keep ≡ None)) ⊎ ((text : List ℕ) × Catches p t handler text × IsFilter p text keep)

module _ (p : Program) (s : System) (names : List Meaning) where
  -- the number of the variable of a definition that holds in an operand
  abbrev pub IsDefined : Statement → ℕ → Var → Type 0
  IsDefined t i x = (d : Def) × OperandIs p t i d × VariableNumber p s (variable_of t.method d) x

  -- the number of what a throw passes on, or of what a call throws
  abbrev pub IsRaisedAs : Statement → Var → Type 0
  IsRaisedAs t x = (HasOpcode p t IsThrow × OperandNumber p s names t 0 x) ⊎ (HasOpcode p t IsCall × VariableNumber p s (ExceptionOf t) x)

-- a constraint, and the method in which it is in force
pub data IsConstraint (p : Program) (s : System) (names : List Meaning) : MethodId → Rule → Type 0 where
  -- the root calls the entry methods with an array of strings, once their classes are initialized
  enters : {r : MethodId} {e : Entry} → IsRoot p r → Contains p.entries e → IsConstraint p s names r (Enter e.method)
  given : {r : MethodId} {e : Entry} {x : Var} {n : SiteId} → IsRoot p r → Contains p.entries e → e.arguments ≡ true →
      VariableNumber p s (ArgumentOf e.method 0) x → SiteNumber p n (OfRoot 0) → IsConstraint p s names r (Alloc x n)
  given_elements : {r : MethodId} {a b : SiteId} → IsRoot p r → SiteNumber p a (OfRoot 0) → SiteNumber p b (OfRoot 1) →
      IsConstraint p s names r (Hold a b)
  entry_initializes : {r : MethodId} {e : Entry} {c : ℕ} {k : ClassFile} {m : MethodId} → IsRoot p r → Contains p.entries e →
      ClassOf p e.method c k → Initializes p c m → IsConstraint p s names r (Enter m)
  -- a class is initialized where it is needed
  initializes : {t : Statement} {c : ℕ} {m : MethodId} → HasOpcode p t (λ op. Unit {0}) → NeedsClass p t c → Initializes p c m →
      IsConstraint p s names t.method (Enter m)
  -- an allocation's value is its first site, and an array of arrays, or a fresh one, holds its next site
  allocates : {t : Statement} {x : Var} {n : SiteId} → HasOpcode p t IsAllocation → VariableNumber p s (ValueOf t) x → SiteNumber p n (Made t 0) →
      IsConstraint p s names t.method (Alloc x n)
  nests : {t : Statement} {k : ℕ} {a b : SiteId} → HasOpcode p t (λ op. Unit {0}) → SiteNumber p a (Made t k) → SiteNumber p b (Made t (suc k)) →
      IsConstraint p s names t.method (Hold a b)
  -- a field that isn't found may hold something fresh
  reads_fresh : {t : Statement} {x : Var} {n : SiteId} → HasOpcode p t (λ op. IsGetStatic op ⊎ IsGetField op) → NamesField p t None →
      VariableNumber p s (ValueOf t) x → SiteNumber p n (Made t 0) → IsConstraint p s names t.method (Alloc x n)
  -- what is loaded, stored, cast, answered, or written to a static variable is copied from each definition that holds in the operand
  copies : {t : Statement} {x y : Var} → HasOpcode p t (λ op. IsLoad op ⊎ IsStore op) → IsDefined p s names t 0 x → VariableNumber p s (ValueOf t) y →
      IsConstraint p s names t.method (Copy x y None)
  casts : {t : Statement} {text : List ℕ} {keep : Option ClassId} {x y : Var} → HasOpcode p t IsCheckCast → NamesClass p t text → IsFilter p text keep →
      IsDefined p s names t 0 x → VariableNumber p s (ValueOf t) y → IsConstraint p s names t.method (Copy x y keep)
  answers : {t : Statement} {x y : Var} → HasOpcode p t IsValueReturn → IsDefined p s names t 0 x → VariableNumber p s (ResultOf t.method) y →
      IsConstraint p s names t.method (Copy x y None)
  writes_static : {t : Statement} {v : Variable} {x y : Var} → HasOpcode p t IsPutStatic → IsStaticVariable p t v → IsDefined p s names t 0 x →
      VariableNumber p s v y → IsConstraint p s names t.method (Copy x y None)
  -- .. and to the variable of an operand, where it has one of its own
  joins : {t : Statement} {i : ℕ} {x y : Var} → IsDefined p s names t i x → StandsFor names y (Operand t i) → IsConstraint p s names t.method (Copy x y None)
  -- fields, elements and static variables are read
  reads_field : {t : Statement} (f : Option FieldId) {x y : Var} {g : FieldId} → HasOpcode p t IsGetField → NamesField p t f →
      OperandNumber p s names t 0 x → FieldNumber s (field_name f) g → VariableNumber p s (ValueOf t) y → IsConstraint p s names t.method (Load x g y)
  reads_element : {t : Statement} {x y : Var} → HasOpcode p t IsReferenceLoad → OperandNumber p s names t 0 x → VariableNumber p s (ValueOf t) y →
      IsConstraint p s names t.method (Load x (elements_field s) y)
  reads_static : {t : Statement} {v : Variable} {x y : Var} → HasOpcode p t IsGetStatic → IsStaticVariable p t v → VariableNumber p s v x →
      VariableNumber p s (ValueOf t) y → IsConstraint p s names t.method (Copy x y None)
  -- .. and fields and elements are written
  writes_field : {t : Statement} (f : Option FieldId) {x y : Var} {g : FieldId} → HasOpcode p t IsPutField → NamesField p t f →
      OperandNumber p s names t 0 x → OperandNumber p s names t 1 y → FieldNumber s (field_name f) g → IsConstraint p s names t.method (Store x g y)
  writes_element : {t : Statement} {x y : Var} → HasOpcode p t IsReferenceStore → OperandNumber p s names t 0 x → OperandNumber p s names t 2 y →
      IsConstraint p s names t.method (Store x (elements_field s) y)
  -- a static or special call goes to the method found, or outside where none is
  calls : {t : Statement} {m : MethodId} {c : CallId} → HasOpcode p t IsCall → GoesTo p t m → CallNumber s t c →
      IsConstraint p s names t.method (Direct c m)
  goes_outside : {t : Statement} {c : CallId} → HasOpcode p t (λ op. IsStaticCall op ⊎ IsSpecialCall op) → IsNotFound p t → CallNumber s t c →
      IsConstraint p s names t.method (OutsideDirect c)
  -- a virtual call goes to what the class of each receiver selects
  selects : {t : Statement} {key : MemberKey} {g : ℕ} {c : CallId} → HasOpcode p t IsVirtualCall → NamesMember p t key → SignatureNumber p key g →
      CallNumber s t c → IsConstraint p s names t.method (Virtual c g)
  -- what is thrown goes to each handler that takes it, and leaves the method where no handler catches all
  catches : {t : Statement} {handler : Handler} {keep : Option ClassId} {x y : Var} → IsRaisedAs p s names t x → IsCovered p t handler →
      IsHandlerFilter p t handler keep → VariableNumber p s (CaughtAt t.method handler.handler) y → IsConstraint p s names t.method (Copy x y keep)
  leaves : {t : Statement} {x y : Var} → IsRaisedAs p s names t x → MayLeave p t → VariableNumber p s (ThrownBy t.method) y →
      IsConstraint p s names t.method (Copy x y None)
