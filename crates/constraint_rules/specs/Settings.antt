-- What the rules of a statement go by: a program, its tables, and a system with them.
use Rattle.std.specs.Prelude.{◌≡◌, ◌↔◌, ◌+◌, ◌<◌, ◌≤◌, ◌^◌, ℕ, List, map, length, AllPairs, Contains}
use Rattle.slicer_ids.specs.Sets.{IsOrderedListOf}
use Rattle.slicer_ids.specs.declared.ids.ClassId.{ClassId}
use Rattle.slicer_ids.specs.declared.ids.MethodId.{MethodId}
use Rattle.slicer_ids.specs.declared.ids.Statement.{Statement}
use Rattle.class_form.specs.Classes.{Declared}
use Rattle.class_form.specs.Resolution.{clinit_name}
use Rattle.class_form.specs.declared.class_file.Member.{Member}
use Rattle.dep_form.specs.declared.system.System.{System}
use Rattle.program_form.specs.Programs.{Program, ClassOf, MethodOf}
use Rattle.program_form.specs.Statements.{IsAt}
use Rattle.program_form.specs.Systems.{ForeignBefore, IsForeignStatic}
use Rattle.constraint_form.specs.Variables.{Meaning}
use Rattle.constraint_form.specs.Signatures.{IsSignature}
use Rattle.constraint_form.specs.ConstraintSystems.{AreSites}
use Rattle.signature_tables.specs.Programs.{IsOfClasses}
use Rattle.signature_tables.specs.Statements.{statement}
use Rattle.signature_tables.specs.TextPairs.{pair_of}
use Rattle.variable_tables.specs.Statements.{IsFollowed}
use Rattle.variable_tables.specs.Tables.{HasVariables, AreTables, AreNames}
use Rattle.variable_tables.specs.LookUps.{AreOrdered}
use Rattle.constraint_rules.specs.declared.tables.Tables.{Tables}
use Rattle.constraint_rules.specs.declared.tables.Reachable.{Reachable}

-- the method is the initializer of the class
abbrev pub IsInitializerOf : Program → ClassId → MethodId → Type 0
IsInitializerOf p c m =
    (d : Declared) × (x : Member) × (name : List ℕ) × (bytes : List ℕ) × MethodOf p m d x name bytes × (name ≡ clinit_name) × (d.class ≡ c.0)

-- the initializers of the classes of the program
abbrev pub AreInitializers : Program → List (ClassId × MethodId) → Type 0
AreInitializers p xs = (c : ClassId) (m : MethodId) → Contains xs (c, m) ↔ IsInitializerOf p c m

-- the tables are those of the program, and the system has their variables, which these names say
pub record IsSetting (t : Tables) (p : Program) (s : System) (names : List Meaning) : Type 0 where
  pub of : IsOfClasses t.h.now p
  pub has : HasVariables s t.variables.now
  pub variables : AreTables p (length t.foreign.now) t.variables.now
  pub named : AreNames p t.variables.now names
  pub sites : AreSites p t.sites.now
  pub signatures : IsOrderedListOf ForeignBefore (map pair_of t.signatures.now) (IsSignature p)
  pub foreign : IsOrderedListOf ForeignBefore (map pair_of t.foreign.now) (IsForeignStatic p)
  pub initializers : AreInitializers p t.initializers.now
  pub fields : t.fields ≡ length p.fields + 3
  pub same_fields : s.fields ≡ t.fields

abbrev pub place_of : Reachable → Statement
place_of x = statement x.body.now x.point.now.pc

-- the instruction stands in the program, in a method of this class file
pub record IsPlaced (p : Program) (x : Reachable) : Type 0 where
  pub at : IsAt p (place_of x) x.body.now x.instr.now
  pub file : (c : ℕ) × ClassOf p x.body.now.method c x.file.now
  pub member : (d : Declared) × (name : List ℕ) × (bytes : List ℕ) × MethodOf p x.body.now.method d x.member.now name bytes

-- what look-ups ask of the tables
pub record AreReady (t : Tables) : Type 0 where
  pub variables : AreOrdered t.variables.now
  pub signatures : AllPairs ForeignBefore (map pair_of t.signatures.now)
  pub foreign : AllPairs ForeignBefore (map pair_of t.foreign.now)
  pub initializers : AllPairs (λ (a b : ClassId × MethodId). a.0.0 ≤ b.0.0) t.initializers.now
  pub few_calls : length t.variables.now.exceptions < 2 ^ 32
  pub few_sites : length t.sites.now < 2 ^ 32
  pub few_signatures : length t.signatures.now < 2 ^ 32
  pub few_foreign : length t.foreign.now < 2 ^ 32

-- .. and of the instruction
pub record IsReady (t : Tables) (x : Reachable) : Type 0 where
  pub tables : AreReady t
  pub body : IsFollowed x.body.now
  pub point : Contains x.body.now.shape.points x.point.now
