-- The tables of variables of a program.
use Rattle.std.specs.Prelude.{◌≡◌, ◌↔◌, ◌<◌, ◌+◌, ℕ, true, List, [], ◌∷◌, map, Option, Some, Contains, length, slice_get}
use Rattle.slicer_ids.specs.Sets.{IsOrderedListOf}
use Rattle.slicer_ids.specs.Order.{StatementBefore}
use Rattle.slicer_ids.specs.declared.ids.MethodId.{MethodId}
use Rattle.slicer_ids.specs.declared.ids.Statement.{Statement}
use Rattle.class_form.specs.Opcodes.{IsCall}
use Rattle.class_form.specs.Classes.{Declared, IsNative}
use Rattle.class_form.specs.declared.class_file.Member.{Member}
use Rattle.dep_form.specs.declared.rules.Var.{Var}
use Rattle.dep_form.specs.declared.rules.MethodVars.{MethodVars}
use Rattle.dep_form.specs.declared.call_site.CallSite.{CallSite}
use Rattle.dep_form.specs.declared.system.System.{System}
use Rattle.program_form.specs.Programs.{Program, MethodOf, HasFormal}
use Rattle.program_form.specs.Statements.{HasOpcode}
use Rattle.program_form.specs.Facts.{ValueOf, ArgumentOf, ResultOf, ThrownBy, CaughtAt, ExceptionOf, StaticField, StaticNamed}
use Rattle.program_form.specs.Nodes.{at}
use Rattle.constraint_form.specs.Variables.{Meaning, Named, Operand, StandsFor, MakesObject, IsVariable, AreVariables}
use Rattle.variable_tables.specs.Numbers.{IsCounted, keys_of, numbers_of}
use Rattle.variable_tables.specs.Growth.{IsChosen}
use Rattle.variable_tables.specs.Statements.{Rises}
use Rattle.variable_tables.specs.Operands.{IsRead, HasDefinition, OperandBefore}
use Rattle.variable_tables.specs.declared.tables.OperandPlace.{OperandPlace}
use Rattle.variable_tables.specs.declared.tables.VariableTables.{VariableTables}

-- a method's variables have the numbers from the first on, up to the second: arguments, result, what it throws, values, handlers
abbrev pub IsNumbered : ℕ → MethodVars → ℕ → Type 0
IsNumbered n v m =
    (a : ℕ) × (b : ℕ) × IsCounted n v.formals a × (v.result ≡ Some (record { 0 = a })) × (v.thrown ≡ record { 0 = a + 1 })
    × IsCounted (a + 2) (numbers_of v.values) b × IsCounted b (numbers_of v.caught) m

-- .. those of methods one after another
abbrev pub AreNumbered : ℕ → List MethodVars → ℕ → Type 0
AreNumbered n [] m = n ≡ m
AreNumbered n (v ∷ vs) m = (k : ℕ) × IsNumbered n v k × AreNumbered k vs m

-- there is a variable for each argument of the method, for each statement whose value may be an object, and for each handler
pub record IsOfMethod (p : Program) (m : MethodId) (v : MethodVars) : Type 0 where
  pub formals : (i : ℕ) → HasFormal p m i ↔ (i < length v.formals)
  pub values : IsOrderedListOf Rises (keys_of v.values) (λ pc. HasOpcode p (at m pc) MakesObject)
  pub caught : IsOrderedListOf Rises (keys_of v.caught) (λ pc. IsVariable p (CaughtAt m pc))
  pub native : (d : Declared) (x : Member) (name descriptor : List ℕ) → MethodOf p m d x name descriptor → (v.native ≡ true) ↔ IsNative x.flags

pub record AreOfMethods (p : Program) (vs : List MethodVars) : Type 0 where
  pub count : length vs ≡ length p.methods
  pub each : (m : MethodId) (v : MethodVars) → slice_get vs m.0 ≡ Some v → IsOfMethod p m v

-- what calls throw and operands have the variables from a number on
pub record AreBehind (p : Program) (n : ℕ) (t : VariableTables) : Type 0 where
  pub calls : IsOrderedListOf StatementBefore (keys_of t.exceptions) (λ s. HasOpcode p s IsCall)
  pub operands : IsChosen OperandBefore (keys_of t.operands) (IsRead p) (HasDefinition p t.methods)
  pub numbered : (a : ℕ) × IsCounted n (numbers_of t.exceptions) a × IsCounted a (numbers_of t.operands) t.vars

-- the tables have each variable of the program under its key, and number them one after another, the static ones first
pub record AreTables (p : Program) (foreign : ℕ) (t : VariableTables) : Type 0 where
  pub methods : AreOfMethods p t.methods
  pub numbered : (n : ℕ) × AreNumbered (length p.fields + foreign) t.methods n × AreBehind p n t

-- what a call throws, by its place
abbrev pub thrown_by_call : CallSite → Option Statement × Var
thrown_by_call k = (k.place, k.exception)

abbrev pub thrown_by_entry : Statement × Var → Option Statement × Var
thrown_by_entry e = (Some e.0, e.1)

-- the system has the variables of the tables
pub record HasVariables (s : System) (t : VariableTables) : Type 0 where
  pub methods : s.methods ≡ t.methods
  pub exceptions : map thrown_by_call s.calls ≡ map thrown_by_entry t.exceptions
  pub vars : s.vars ≡ t.vars

-- the number of a meaning by the tables; so many fields come first, then the static fields of these names and descriptors
abbrev pub IsEntry : ℕ → List (List ℕ × List ℕ) → VariableTables → Meaning → Var → Type 0
IsEntry fields foreign t (Named (StaticField f)) x = (f.0 < fields) × (x.0 ≡ f.0)
IsEntry fields foreign t (Named (StaticNamed name descriptor)) x = (i : ℕ) × (slice_get foreign i ≡ Some (name, descriptor)) × (x.0 ≡ fields + i)
IsEntry fields foreign t (Named (ArgumentOf m i)) x = (v : MethodVars) × (slice_get t.methods m.0 ≡ Some v) × (slice_get v.formals i ≡ Some x)
IsEntry fields foreign t (Named (ResultOf m)) x = (v : MethodVars) × (slice_get t.methods m.0 ≡ Some v) × (v.result ≡ Some x)
IsEntry fields foreign t (Named (ThrownBy m)) x = (v : MethodVars) × (slice_get t.methods m.0 ≡ Some v) × (v.thrown ≡ x)
IsEntry fields foreign t (Named (ValueOf s)) x = (v : MethodVars) × (slice_get t.methods s.method.0 ≡ Some v) × Contains v.values (s.pc, x)
IsEntry fields foreign t (Named (CaughtAt m h)) x = (v : MethodVars) × (slice_get t.methods m.0 ≡ Some v) × Contains v.caught (h, x)
IsEntry fields foreign t (Named (ExceptionOf s)) x = Contains t.exceptions (s, x)
IsEntry fields foreign t (Operand s i) x = Contains t.operands (record { statement = s; operand = i }, x)

-- the list says what each number of the tables stands for, as systems with these variables ask it
pub record AreNames (p : Program) (t : VariableTables) (names : List Meaning) : Type 0 where
  pub variables : (s : System) → HasVariables s t → AreVariables p s names
  -- the variables of operands are those of the tables
  pub own : (k : OperandPlace) (x : Var) → StandsFor names x (Operand k.statement k.operand) ↔ Contains t.operands (k, x)
