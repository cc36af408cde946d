-- What is kept of each call.
use Rattle.std.specs.Prelude.{◌≡◌, ◌↔◌, ℕ, Bool, true, false, List, [], ◌∷◌, map, Contains, Option, Some, slice_get}
use Rattle.slicer_ids.specs.Order.{StatementBefore}
use Rattle.slicer_ids.specs.declared.ids.SiteId.{SiteId}
use Rattle.slicer_ids.specs.declared.ids.Statement.{Statement}
use Rattle.class_form.specs.Pools.{MemberKey, descriptor_at}
use Rattle.class_form.specs.Types.{IsMethodType, is_reference}
use Rattle.class_form.specs.Classes.{IsOutside}
use Rattle.class_form.specs.declared.class_file.ClassFile.{ClassFile}
use Rattle.class_form.specs.declared.pool.Pool.{Pool}
use Rattle.class_form.specs.declared.types.FieldType.{FieldType}
use Rattle.class_form.specs.declared.types.MethodType.{MethodType}
use Rattle.dep_form.specs.declared.rules.Var.{Var}
use Rattle.dep_form.specs.declared.rules.OutsideRule.{OutsideRule}
use Rattle.dep_form.specs.declared.call_site.CallSite.{CallSite}
use Rattle.dep_form.specs.declared.system.System.{System}
use Rattle.dep_form.specs.Outside.{IsReflection, IsOutsideRule}
use Rattle.program_form.specs.Programs.{Program, references_of}
use Rattle.program_form.specs.Statements.{NamesMember, CallType, IsInstance}
use Rattle.program_form.specs.Sites.{Made}
use Rattle.program_form.specs.Facts.{ValueOf, ExceptionOf}
use Rattle.program_form.specs.Systems.{SiteNumber, VariableNumber}
use Rattle.constraint_form.specs.Variables.{Meaning, OperandNumber}
use Rattle.constraint_rules.specs.Settings.{place_of}
use Rattle.constraint_rules.specs.declared.tables.Reachable.{Reachable}

-- whether each of some arguments is a reference; a receiver comes first
abbrev pub flags_of : Bool → List FieldType → List Bool
flags_of true arguments = true ∷ map is_reference arguments
flags_of false arguments = map is_reference arguments

-- .. of those of a method with this descriptor
abbrev pub AreFlagsOf : Bool → List ℕ → List Bool → Type 0
AreFlagsOf receiver bytes flags = (m : MethodType) × IsMethodType bytes m × (flags ≡ references_of receiver m)

-- .. that the constant at an index names
abbrev pub AreFlagsAt : Bool → Pool → ℕ → List Bool → Type 0
AreFlagsAt receiver pool i flags = (bytes : List ℕ) × (descriptor_at pool i ≡ Some bytes) × AreFlagsOf receiver bytes flags

-- the rule of reflection that refuses a call of this method
abbrev pub IsRefused : List ClassFile → MemberKey → ℕ → Type 0
IsRefused classes key n = IsOutside classes key.class × IsReflection key.class key.name n

-- .. what the statement calls
abbrev pub IsRefusedBy : Program → Statement → ℕ → Type 0
IsRefusedBy p t n = (key : MemberKey) × NamesMember p t key × IsOutside p.classes key.class × IsReflection key.class key.name n

-- the variables of arguments, from the first on
abbrev pub AreArguments : Program → System → List Meaning → Statement → List Var → Type 0
AreArguments p s names t vars = (i : ℕ) (x : Var) → slice_get vars i ≡ Some x → OperandNumber p s names t i x

-- what is kept of the call at a statement
pub record IsCallAt (p : Program) (s : System) (names : List Meaning) (t : Statement) (k : CallSite) : Type 0 where
  pub place : k.place ≡ Some t
  pub type : (m : MethodType) × CallType p t m × IsInstance p t k.instance × (k.references ≡ references_of k.instance m)
  pub arguments : AreArguments p s names t k.arguments
  pub thrown : VariableNumber p s (ExceptionOf t) k.exception
  pub value : (x : Var) × (k.result ≡ Some x) × VariableNumber p s (ValueOf t) x
  pub fresh : (n : SiteId) → (k.fresh ≡ Some n) ↔ SiteNumber p n (Made t 0)
  pub refused : (n : ℕ) → (k.refused ≡ Some n) ↔ IsRefusedBy p t n

-- .. at some statement
abbrev pub IsKnownCall : Program → System → List Meaning → CallSite → Type 0
IsKnownCall p s names k = (t : Statement) × IsCallAt p s names t k

-- a place, and what is thrown there
abbrev pub Thrown : Type 0
Thrown = Option Statement × Var

abbrev pub ThrownBefore : Thrown → Thrown → Type 0
ThrownBefore a b = (s : Statement) × (t : Statement) × (a.0 ≡ Some s) × (b.0 ≡ Some t) × StatementBefore s t

-- the instruction is a call that throws this
abbrev pub IsThrownAt : List (Statement × Var) → Reachable → Thrown → Type 0
IsThrownAt exceptions x e = (y : Var) × Contains exceptions (place_of x, y) × (e ≡ (Some (place_of x), y))

-- what each call reads and writes, were it outside
abbrev pub AreRulesOf : List CallSite → List OutsideRule → Type 0
AreRulesOf [] [] = Unit {0}
AreRulesOf [] (r ∷ rs) = ⊥
AreRulesOf (k ∷ ks) [] = ⊥
AreRulesOf (k ∷ ks) (r ∷ rs) = IsOutsideRule k.instance k.references r × AreRulesOf ks rs
