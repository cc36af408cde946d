-- The system of constraints of a program, table by table.
use Rattle.std.specs.Prelude.{◌≡◌, ◌⊎◌, ◌↔◌, ◌<◌, ◌≤◌, ◌+◌, ℕ, Bool, true, List, map, AllPairs, Contains, Option, Some, None, length, slice_get}
use Rattle.slicer_ids.specs.Sets.{IsOrderedListOf}
use Rattle.slicer_ids.specs.Order.{StatementBefore}
use Rattle.slicer_ids.specs.declared.ids.MethodId.{MethodId}
use Rattle.slicer_ids.specs.declared.ids.ClassId.{ClassId}
use Rattle.slicer_ids.specs.declared.ids.SiteId.{SiteId}
use Rattle.slicer_ids.specs.declared.ids.CallId.{CallId}
use Rattle.slicer_ids.specs.declared.ids.Statement.{Statement}
use Rattle.class_form.specs.Pools.{MemberKey}
use Rattle.class_form.specs.Opcodes.{IsCall}
use Rattle.class_form.specs.Classes.{Declared, IsNamed, IsOutside, IsNative, IsSub}
use Rattle.class_form.specs.Resolution.{Selects}
use Rattle.class_form.specs.declared.class_file.Member.{Member}
use Rattle.class_form.specs.declared.types.FieldType.{FieldType}
use Rattle.class_form.specs.declared.types.MethodType.{MethodType}
use Rattle.dep_form.specs.declared.rules.Var.{Var}
use Rattle.dep_form.specs.declared.rules.Rule.{Rule}
use Rattle.dep_form.specs.declared.rules.Constraint.{Constraint}
use Rattle.dep_form.specs.declared.rules.MethodVars.{MethodVars}
use Rattle.dep_form.specs.declared.rules.OutsideRule.{OutsideRule}
use Rattle.dep_form.specs.declared.rules.SiteInfo.{SiteInfo}
use Rattle.dep_form.specs.declared.rules.Spot.{Spot}
use Rattle.dep_form.specs.declared.rules.Touch.{Touch}
use Rattle.dep_form.specs.declared.call_site.CallSite.{CallSite}
use Rattle.dep_form.specs.declared.system.System.{System}
use Rattle.dep_form.specs.Constraints.{IsCallSite, IsMethodVars}
use Rattle.dep_form.specs.Outside.{IsOutsideRule, IsReflection}
use Rattle.program_form.specs.Programs.{Program, MethodOf, references_of}
use Rattle.program_form.specs.Statements.{HasOpcode, NamesMember, CallType, IsInstance}
use Rattle.program_form.specs.Sites.{Site, Made, HasType, SiteBefore, StandsAt, IsArraySite, IsObjectOf}
use Rattle.program_form.specs.Facts.{ValueOf}
use Rattle.program_form.specs.Systems.{SiteNumber, VariableNumber, IsCallOf}
use Rattle.constraint_form.specs.Variables.{Meaning, OperandNumber, AreVariables}
use Rattle.constraint_form.specs.Signatures.{IsSignature, SignatureNumber, IsSelection}
use Rattle.constraint_form.specs.Rules.{IsConstraint}
use Rattle.constraint_form.specs.Touched.{IsTouch}

-- what each site is
pub record AreSites (p : Program) (sites : List SiteInfo) : Type 0 where
  pub listed : (hs : List Site) × IsOrderedListOf SiteBefore hs (λ h. (t : FieldType) × HasType p h t) × (length sites ≡ length hs)
  pub places : (n : SiteId) (h : Site) (info : SiteInfo) → SiteNumber p n h → slice_get sites n.0 ≡ Some info → StandsAt h info.place info.k
  pub arrays : (n : SiteId) (h : Site) (info : SiteInfo) → SiteNumber p n h → slice_get sites n.0 ≡ Some info → (info.array ≡ true) ↔ IsArraySite p h
  pub objects : (n : SiteId) (h : Site) (info : SiteInfo) (c : ClassId) → SiteNumber p n h → slice_get sites n.0 ≡ Some info →
      (info.class ≡ Some c) ↔ ((name : List ℕ) × IsObjectOf p h name × IsNamed p.classes name c.0)

-- the calls are those of the statements, in order; the root's are not among them. What each is
pub record AreCalls (p : Program) (s : System) (names : List Meaning) : Type 0 where
  pub listed : (ts : List Statement) × IsOrderedListOf StatementBefore ts (λ t. HasOpcode p t IsCall) × (map (λ (k : CallSite). k.place) s.calls ≡ map (λ (t : Statement). Some t) ts)
  pub types : (t : Statement) (c : CallId) (k : CallSite) → IsCallOf s t c k →
      (m : MethodType) × CallType p t m × IsInstance p t k.instance × (k.references ≡ references_of k.instance m)
  pub arguments : (t : Statement) (c : CallId) (k : CallSite) (i : ℕ) (x : Var) → IsCallOf s t c k → slice_get k.arguments i ≡ Some x →
      OperandNumber p s names t i x
  pub results : (t : Statement) (c : CallId) (k : CallSite) → IsCallOf s t c k → (x : Var) × (k.result ≡ Some x) × VariableNumber p s (ValueOf t) x
  pub fresh : (t : Statement) (c : CallId) (k : CallSite) (n : SiteId) → IsCallOf s t c k → (k.fresh ≡ Some n) ↔ SiteNumber p n (Made t 0)
  pub refusals : (t : Statement) (c : CallId) (k : CallSite) (n : ℕ) → IsCallOf s t c k →
      (k.refused ≡ Some n) ↔ ((key : MemberKey) × NamesMember p t key × IsOutside p.classes key.class × IsReflection key.class key.name n)
  pub rules : (c : CallId) (k : CallSite) (r : OutsideRule) → IsCallSite s c k → slice_get s.outside_rules c.0 ≡ Some r →
      IsOutsideRule k.instance k.references r

-- the classes of which each is a subclass, and what each selects for a signature; what isn't listed selects none in the folder
pub record AreTypes (p : Program) (subclasses : List (ClassId × ClassId)) (selects : List (ℕ × ClassId × Option MethodId)) : Type 0 where
  pub subs : (c d : ClassId) → Contains subclasses (c, d) ↔ ((c.0 < length p.classes) × (d.0 < length p.classes) × IsSub p.classes c.0 d.0)
  pub signatures : (key : MemberKey) → IsSignature p (key.name, key.descriptor) → (g : ℕ) × SignatureNumber p key g
  pub selected : (g : ℕ) (c : ClassId) (o : Option MethodId) → Contains selects (g, c, o) ↔ IsSelection p g c o
  pub others : (g : ℕ) (c : ClassId) (key : MemberKey) (name : List ℕ) → SignatureNumber p key g → IsNamed p.classes name c.0 →
      ((o : Option MethodId) → Contains selects (g, c, o) → ⊥) → Selects p.classes name key None

-- one pair comes before another
abbrev pub PairBefore : ℕ × ℕ → ℕ × ℕ → Type 0
PairBefore a b = (a.0 < b.0) ⊎ ((a.0 ≡ b.0) × (a.1 < b.1))

-- the lists are in order: variables by program counter, pairs of classes, choices by signature and class, constraints by method,
-- touches by statement
pub record AreOrdered (s : System) : Type 0 where
  pub values : (m : MethodId) (v : MethodVars) → IsMethodVars s m v → AllPairs (λ (a b : ℕ × Var). a.0 < b.0) v.values
  pub caught : (m : MethodId) (v : MethodVars) → IsMethodVars s m v → AllPairs (λ (a b : ℕ × Var). a.0 < b.0) v.caught
  pub subclasses : AllPairs (λ (a b : ClassId × ClassId). PairBefore (a.0.0, a.1.0) (b.0.0, b.1.0)) s.subclasses
  pub selects : AllPairs (λ (a b : ℕ × ClassId × Option MethodId). PairBefore (a.0, a.1.0) (b.0, b.1.0)) s.selects
  pub constraints : AllPairs (λ (a b : Constraint). a.method.0 ≤ b.method.0) s.constraints
  pub touches : AllPairs (λ (a b : Touch). StatementBefore b.place a.place → ⊥) s.touches

-- the tables of the system, where names says what its variables stand for
pub record AreTables (p : Program) (s : System) (names : List Meaning) : Type 0 where
  pub methods : length s.methods ≡ length p.methods
  pub fields : s.fields ≡ length p.fields + 3
  pub natives : (m : MethodId) (v : MethodVars) (d : Declared) (x : Member) (name descriptor : List ℕ) → IsMethodVars s m v → MethodOf p m d x name descriptor →
      (v.native ≡ true) ↔ IsNative x.flags
  pub variables : AreVariables p s names
  pub sites : AreSites p s.sites
  pub calls : AreCalls p s names
  pub types : AreTypes p s.subclasses s.selects
  pub constraints : (m : MethodId) (rule : Rule) → Contains s.constraints (record { method = m; rule = rule }) ↔ IsConstraint p s names m rule
  pub touches : (t : Statement) (write : Bool) (spot : Spot) → Contains s.touches (record { place = t; write = write; spot = spot }) ↔ IsTouch p s names t write spot
  pub order : AreOrdered s

-- the system has the constraints of the program, and the tables that they read
abbrev pub IsConstraintSystem : Program → System → Type 0
IsConstraintSystem p s = (names : List Meaning) × AreTables p s names
