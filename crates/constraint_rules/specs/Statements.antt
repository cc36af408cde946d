-- The constraints of one statement, rule by rule.
use Rattle.std.specs.Prelude.{◌≡◌, ◌⊎◌, ℕ, suc, true, List, Option, Some, None, Contains, slice_get}
use Rattle.slicer_ids.specs.declared.ids.ClassId.{ClassId}
use Rattle.slicer_ids.specs.declared.ids.MethodId.{MethodId}
use Rattle.slicer_ids.specs.declared.ids.SiteId.{SiteId}
use Rattle.slicer_ids.specs.declared.ids.FieldId.{FieldId}
use Rattle.slicer_ids.specs.declared.ids.Statement.{Statement}
use Rattle.class_form.specs.Pools.{MemberKey}
use Rattle.class_form.specs.Classes.{Declared}
use Rattle.class_form.specs.Resolution.{FindsField}
use Rattle.class_form.specs.Opcodes.{IsLoad, IsStore, IsReferenceLoad, IsReferenceStore, IsValueReturn, IsGetStatic, IsPutStatic, IsGetField, IsPutField, IsCall, IsVirtualCall, IsSpecialCall, IsStaticCall, IsCheckCast}
use Rattle.class_form.specs.declared.class_file.ClassFile.{ClassFile}
use Rattle.class_form.specs.declared.class_file.Handler.{Handler}
use Rattle.dep_form.specs.declared.rules.Entry.{Entry}
use Rattle.dep_form.specs.declared.rules.Var.{Var}
use Rattle.dep_form.specs.declared.rules.Rule.{Rule}
use Rattle.dep_form.specs.declared.rules.Rule.TheVariants.{Enter, Hold}
use Rattle.dep_form.specs.declared.system.System.{System}
use Rattle.dep_form.specs.Constraints.{elements_field}
use Rattle.program_form.specs.Programs.{Program, IsRoot, ClassOf, Initializes}
use Rattle.program_form.specs.Statements.{HasOpcode, NamesClass, NamesMember, NamesField, IsCovered, MayLeave}
use Rattle.program_form.specs.Sites.{Made, OfRoot}
use Rattle.program_form.specs.Facts.{Variable, ValueOf, ArgumentOf, ResultOf, ThrownBy, CaughtAt, StaticField, StaticNamed, field_name, IsStaticVariable, IsAllocation, NeedsClass, GoesTo, IsNotFound}
use Rattle.program_form.specs.Systems.{SiteNumber, FieldNumber, CallNumber, VariableNumber}
use Rattle.constraint_form.specs.Variables.{Meaning, Operand, StandsFor, OperandNumber}
use Rattle.constraint_form.specs.Signatures.{SignatureNumber}
use Rattle.constraint_form.specs.Rules.{IsFilter, IsHandlerFilter, IsDefined, IsRaisedAs}
use Rattle.constraint_rules.specs.Forms.{EnterOf, AllocOf, CopyOf, LoadOf, StoreOf, DirectOf, OutsideOf, VirtualOf}

-- the variable of the static field to which a reference leads
abbrev pub IsNumberOfStatic : Program → System → MemberKey → Var → Type 0
IsNumberOfStatic p s key x =
    ((f : FieldId) × (d : Declared) × FindsField p.classes key (Some d) × (slice_get p.fields f.0 ≡ Some d) × VariableNumber p s (StaticField f) x)
    ⊎ (FindsField p.classes key None × VariableNumber p s (StaticNamed key.name key.descriptor) x)

-- the variable of the static field that the statement names
abbrev pub IsStaticNumber : Program → System → Statement → Var → Type 0
IsStaticNumber p s t x = (v : Variable) × IsStaticVariable p t v × VariableNumber p s v x

-- the number of the field that the statement names; a field that isn't found is the object's state
abbrev pub IsFieldOf : Program → System → Statement → FieldId → Type 0
IsFieldOf p s t g = (f : Option FieldId) × NamesField p t f × FieldNumber s (field_name f) g

-- a site of the statement holds the next one
abbrev pub IsNest : Program → Statement → Rule → Type 0
IsNest p t r = (k : ℕ) × (a : SiteId) × (b : SiteId) × SiteNumber p a (Made t k) × SiteNumber p b (Made t (suc k)) × (r ≡ Hold a b)

-- the number of the name and descriptor that the statement names
abbrev pub IsSignatureAt : Program → Statement → ℕ → Type 0
IsSignatureAt p t g = (key : MemberKey) × NamesMember p t key × SignatureNumber p key g

-- the class that a cast keeps
abbrev pub IsKeptBy : Program → Statement → Option ClassId → Type 0
IsKeptBy p t keep = (text : List ℕ) × NamesClass p t text × IsFilter p text keep

module _ (p : Program) (s : System) (names : List Meaning) (t : Statement) where
  -- what a value is copied from, and the variable of the statement's value
  abbrev pub IsValue : Var → Type 0
  IsValue x = VariableNumber p s (ValueOf t) x

  abbrev pub Initializing : Rule → Type 0
  Initializing r = HasOpcode p t (λ op. Unit {0}) × EnterOf (λ m. (c : ℕ) × NeedsClass p t c × Initializes p c m) r

  abbrev pub Allocating : Rule → Type 0
  Allocating r = HasOpcode p t IsAllocation × AllocOf IsValue (λ n. SiteNumber p n (Made t 0)) r

  abbrev pub Nesting : Rule → Type 0
  Nesting r = HasOpcode p t (λ op. Unit {0}) × IsNest p t r

  abbrev pub FreshOf : Rule → Type 0
  FreshOf r = NamesField p t None × AllocOf IsValue (λ n. SiteNumber p n (Made t 0)) r

  abbrev pub ReadingFresh : Rule → Type 0
  ReadingFresh r = HasOpcode p t (λ op. IsGetStatic op ⊎ IsGetField op) × FreshOf r

  abbrev pub Copying : Rule → Type 0
  Copying r = HasOpcode p t (λ op. IsLoad op ⊎ IsStore op) × CopyOf (IsDefined p s names t 0) IsValue None r

  abbrev pub CastOf : Rule → Type 0
  CastOf r = (keep : Option ClassId) × IsKeptBy p t keep × CopyOf (IsDefined p s names t 0) IsValue keep r

  abbrev pub Casting : Rule → Type 0
  Casting r = HasOpcode p t IsCheckCast × CastOf r

  abbrev pub Answering : Rule → Type 0
  Answering r = HasOpcode p t IsValueReturn × CopyOf (IsDefined p s names t 0) (VariableNumber p s (ResultOf t.method)) None r

  abbrev pub WritingStatic : Rule → Type 0
  WritingStatic r = HasOpcode p t IsPutStatic × CopyOf (IsDefined p s names t 0) (IsStaticNumber p s t) None r

  abbrev pub Joining : Rule → Type 0
  Joining r = (i : ℕ) × CopyOf (IsDefined p s names t i) (λ y. StandsFor names y (Operand t i)) None r

  abbrev pub ReadingField : Rule → Type 0
  ReadingField r = HasOpcode p t IsGetField × LoadOf (OperandNumber p s names t 0) (IsFieldOf p s t) IsValue r

  abbrev pub ReadingElement : Rule → Type 0
  ReadingElement r = HasOpcode p t IsReferenceLoad × LoadOf (OperandNumber p s names t 0) (λ g. g ≡ elements_field s) IsValue r

  abbrev pub ReadingStatic : Rule → Type 0
  ReadingStatic r = HasOpcode p t IsGetStatic × CopyOf (IsStaticNumber p s t) IsValue None r

  abbrev pub WritingField : Rule → Type 0
  WritingField r = HasOpcode p t IsPutField × StoreOf (OperandNumber p s names t 0) (IsFieldOf p s t) (OperandNumber p s names t 1) r

  abbrev pub WritingElement : Rule → Type 0
  WritingElement r = HasOpcode p t IsReferenceStore × StoreOf (OperandNumber p s names t 0) (λ g. g ≡ elements_field s) (OperandNumber p s names t 2) r

  abbrev pub Calling : Rule → Type 0
  Calling r = HasOpcode p t IsCall × DirectOf (CallNumber s t) (GoesTo p t) r

  abbrev pub NotFoundOf : Rule → Type 0
  NotFoundOf r = IsNotFound p t × OutsideOf (CallNumber s t) r

  abbrev pub GoingOutside : Rule → Type 0
  GoingOutside r = HasOpcode p t (λ op. IsStaticCall op ⊎ IsSpecialCall op) × NotFoundOf r

  abbrev pub Selecting : Rule → Type 0
  Selecting r = HasOpcode p t IsVirtualCall × VirtualOf (CallNumber s t) (IsSignatureAt p t) r

  abbrev pub Catching : Rule → Type 0
  Catching r =
      (handler : Handler) × (keep : Option ClassId) × IsCovered p t handler × IsHandlerFilter p t handler keep
      × CopyOf (IsRaisedAs p s names t) (VariableNumber p s (CaughtAt t.method handler.handler)) keep r

  abbrev pub Leaving : Rule → Type 0
  Leaving r = MayLeave p t × CopyOf (IsRaisedAs p s names t) (VariableNumber p s (ThrownBy t.method)) None r

module _ (p : Program) (s : System) (names : List Meaning) (t : Statement) where
  abbrev pub OfCopies : Rule → Type 0
  OfCopies r = Copying p s names t r ⊎ (Casting p s names t r ⊎ (Answering p s names t r ⊎ (WritingStatic p s names t r ⊎ Joining p s names t r)))

  abbrev pub OfHeap : Rule → Type 0
  OfHeap r = ReadingField p s names t r ⊎ (ReadingElement p s names t r ⊎ (ReadingStatic p s names t r ⊎ (WritingField p s names t r ⊎ WritingElement p s names t r)))

  abbrev pub OfFresh : Rule → Type 0
  OfFresh r = Initializing p s names t r ⊎ (Allocating p s names t r ⊎ (Nesting p s names t r ⊎ ReadingFresh p s names t r))

  abbrev pub OfCalls : Rule → Type 0
  OfCalls r = Calling p s names t r ⊎ (GoingOutside p s names t r ⊎ Selecting p s names t r)

  abbrev pub OfThrows : Rule → Type 0
  OfThrows r = Catching p s names t r ⊎ Leaving p s names t r

-- a constraint of the statement
abbrev pub IsRuleAt : Program → System → List Meaning → Statement → Rule → Type 0
IsRuleAt p s names t r =
    OfCopies p s names t r ⊎ (OfHeap p s names t r ⊎ (OfFresh p s names t r ⊎ (OfCalls p s names t r ⊎ OfThrows p s names t r)))

-- a constraint of the root
pub data IsRootRule (p : Program) (s : System) (r : Rule) : Type 0 where
  entering : {e : Entry} → Contains p.entries e → r ≡ Enter e.method → IsRootRule p s r
  giving : {e : Entry} → Contains p.entries e → e.arguments ≡ true → AllocOf (VariableNumber p s (ArgumentOf e.method 0)) (λ n. SiteNumber p n (OfRoot 0)) r → IsRootRule p s r
  holding : {a b : SiteId} → SiteNumber p a (OfRoot 0) → SiteNumber p b (OfRoot 1) → r ≡ Hold a b → IsRootRule p s r
  initializing_first : {e : Entry} {c : ℕ} {k : ClassFile} → Contains p.entries e → ClassOf p e.method c k → EnterOf (Initializes p c) r → IsRootRule p s r

-- a constraint by the method in which it is in force: the root's, or of one of its statements
abbrev pub IsRuleOf : Program → System → List Meaning → MethodId → Rule → Type 0
IsRuleOf p s names m r = (IsRoot p m × IsRootRule p s r) ⊎ ((t : Statement) × (t.method ≡ m) × IsRuleAt p s names t r)
