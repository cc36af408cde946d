-- The facts of a program, table by table.
use Rattle.std.specs.Prelude.{◌≡◌, ◌⊎◌, ◌↔◌, ◌<◌, ◌≤◌, ◌+◌, ◌*◌, ◌/◌, ◌^◌, ℕ, suc, List, Option, Some, Contains, AllPairs, length, slice_get, count_by}
use Rattle.slicer_ids.specs.Sets.{IsOrderedListOf}
use Rattle.slicer_ids.specs.Order.{StatementBefore, SiteBefore}
use Rattle.slicer_ids.specs.declared.ids.MethodId.{MethodId}
use Rattle.slicer_ids.specs.declared.ids.ClassId.{ClassId}
use Rattle.slicer_ids.specs.declared.ids.NodeId.{NodeId}
use Rattle.slicer_ids.specs.declared.ids.SiteId.{SiteId}
use Rattle.slicer_ids.specs.declared.ids.LocId.{LocId}
use Rattle.slicer_ids.specs.declared.ids.Statement.{Statement}
use Rattle.class_form.specs.Types.{constant_text}
use Rattle.class_form.specs.Classes.{class_name, IsClass, Declared}
use Rattle.class_form.specs.Reaching.{Flows}
use Rattle.class_form.specs.declared.class_file.ClassFile.{ClassFile}
use Rattle.class_form.specs.declared.class_file.Member.{Member}
use Rattle.class_form.specs.declared.types.FieldType.{FieldType}
use Rattle.class_form.specs.declared.body.Body.{Body}
use Rattle.class_form.specs.declared.body.Point.{Point}
use Rattle.class_form.specs.declared.body.Def.{Def}
use Rattle.dep_form.specs.declared.node.Node.{Node as NodeNumber}
use Rattle.dep_form.specs.declared.node.Edge.{Edge}
use Rattle.dep_form.specs.declared.input.MethodInput.{MethodInput}
use Rattle.dep_form.specs.declared.access.Access.{Access}
use Rattle.dep_form.specs.declared.texts.MethodText.{MethodText}
use Rattle.dep_form.specs.declared.texts.SiteName.{SiteName}
use Rattle.dep_form.specs.declared.rules.SiteInfo.{SiteInfo}
use Rattle.dep_form.specs.declared.system.System.{System}
use Rattle.dep_form.specs.declared.effects.ModRef.{ModRef}
use Rattle.dep_form.specs.declared.facts.Facts.{Facts}
use Rattle.dep_form.specs.PointsTo.{Reached}
use Rattle.dep_form.specs.Constraints.{SystemHolds, IsSite, IsRoot}
use Rattle.dep_form.specs.Nodes.{ComesBefore, is_formal, is_exit}
use Rattle.dep_form.specs.Graphs.{EdgeBefore}
use Rattle.dep_form.specs.Inputs.{IsInputOf, IsNodeOf, IsNode, IsExitNode}
use Rattle.dep_form.specs.LookUps.{IsStatementOf, HasLineIn}
use Rattle.dep_form.specs.WithinFacts.{NodeBefore, FollowOn}
use Rattle.dep_form.specs.Firsts.{node_count}
use Rattle.dep_form.specs.Orders.{RiseBy, line_cmp, statement_cmp}
use Rattle.dep_form.specs.Keys.{key_of_line, key_of_access, key_of_value}
use Rattle.program_form.specs.Programs.{Program, MethodOf, ClassOf}
use Rattle.program_form.specs.Statements.{HasOpcode, OperandIs}
use Rattle.program_form.specs.Sites.{Site, HasType}
use Rattle.program_form.specs.Systems.{SiteNumber}
use Rattle.program_form.specs.Values.{IsAccessOpcode}
use Rattle.program_form.specs.Lines.{IsLineOf}
use Rattle.fact_form.specs.EntryCalls.{AreEntryCalls}
use Rattle.fact_form.specs.NodeNumbers.{IsNumbered}
use Rattle.fact_form.specs.EdgeNumbers.{IsDefinitionNumber, IsDirect}
use Rattle.fact_form.specs.EffectNumbers.{DefinesNumber, UsesNumber}
use Rattle.fact_form.specs.ValueNumbers.{OperandSite, ValueSite}

-- the body of the method
abbrev pub IsBodyIn : Program → MethodId → Body → Type 0
IsBodyIn p m b = Contains p.bodies b × (b.method ≡ m)

-- the point of this number stands at the pc
abbrev pub IsPointAt : Program → MethodId → ℕ → ℕ → Type 0
IsPointAt p m q pc = (b : Body) × (t : Point) × IsBodyIn p m b × (slice_get b.shape.points q ≡ Some t) × (t.pc ≡ pc)

-- control goes from the one point to the other
abbrev pub IsFlowAt : Program → MethodId → ℕ → ℕ → Type 0
IsFlowAt p m q r =
    (b : Body) × (t : Point) × (u : Point) × IsBodyIn p m b × (slice_get b.shape.points q ≡ Some t) × (slice_get b.shape.points r ≡ Some u)
    × Flows b.shape t.pc u.pc

-- a statement of a method that may run
abbrev pub RunsIn : Program → System → Statement → (ℕ → Type 0) → Type 0
RunsIn p s t Kind = SystemHolds s (Reached t.method) × HasOpcode p t Kind

-- by where a step of control starts, then where it ends
abbrev pub StepBefore : ℕ × ℕ → ℕ × ℕ → Type 0
StepBefore a b = (a.0 < b.0) ⊎ ((a.0 ≡ b.0) × (a.1 < b.1))

-- by point, then node, then location
abbrev pub UseBefore : ℕ × NodeId × LocId → ℕ × NodeId × LocId → Type 0
UseBefore a b = (a.0 < b.0) ⊎ ((a.0 ≡ b.0) × ((a.1.0 < b.1.0) ⊎ ((a.1 ≡ b.1) × (a.2.0 < b.2.0))))

-- the input of a method, or of the root: its nodes; as many points as its body has, and none without a body; the edges that end in its
-- nodes; the flow of control; and which nodes define and use which locations at which points. Each list is in order
pub record IsInputFor (p : Program) (s : System) (mr : ModRef) (entries : List MethodId) (inputs : List (Option MethodInput)) (m : MethodId) (i : MethodInput) : Type 0 where
  pub nodes : IsOrderedListOf ComesBefore i.nodes (IsNumbered p s mr entries m)
  pub points : (q : ℕ) → (q < i.points) ↔ ((pc : ℕ) × IsPointAt p m q pc)
  pub direct : (e : Edge) → Contains i.direct e ↔ ((a : MethodId) × (k : NodeNumber) × (j : NodeNumber) × IsNode inputs e.from a k × IsNodeOf i e.to j
      × IsDirect p s entries a k m j e.label)
  pub flow : (q r : ℕ) → Contains i.flow (q, r) ↔ IsFlowAt p m q r
  pub puts : (q : ℕ) (x : NodeId) (n : LocId) → Contains i.puts (q, x, n) ↔ ((pc : ℕ) × (k : NodeNumber) × IsPointAt p m q pc × IsNodeOf i x k
      × DefinesNumber p s mr entries m pc n k)
  pub gets : (q : ℕ) (x : NodeId) (n : LocId) → Contains i.gets (q, x, n) ↔ ((pc : ℕ) × (k : NodeNumber) × IsPointAt p m q pc × IsNodeOf i x k
      × UsesNumber p s mr entries m pc n k)
  pub direct_order : AllPairs EdgeBefore i.direct
  pub flow_order : AllPairs StepBefore i.flow
  pub puts_order : AllPairs UseBefore i.puts
  pub gets_order : AllPairs UseBefore i.gets

-- the inputs of the methods that may run, and of the root
pub record AreInputs (p : Program) (s : System) (mr : ModRef) (entries : List MethodId) (inputs : List (Option MethodInput)) : Type 0 where
  pub methods : length inputs ≡ suc (length s.methods)
  pub follow_on : FollowOn inputs
  pub whole : (m : MethodId) → ((i : MethodInput) × IsInputOf inputs m i) ↔ (SystemHolds s (Reached m) ⊎ IsRoot s m)
  pub each : (m : MethodId) (i : MethodInput) → IsInputOf inputs m i → IsInputFor p s mr entries inputs m i

-- what produces the object or array of each access, and what that may be
pub record AreAccesses (p : Program) (s : System) (inputs : List (Option MethodInput)) (accesses : List (Statement × Access)) : Type 0 where
  pub order : RiseBy statement_cmp key_of_access accesses
  pub listed : (t : Statement) → ((a : Access) × Contains accesses (t, a)) ↔ RunsIn p s t IsAccessOpcode
  pub objects : (t : Statement) (a : Access) → Contains accesses (t, a) → IsOrderedListOf NodeBefore a.object (λ x. (d : Def) × (k : NodeNumber)
      × OperandIs p t 0 d × IsDefinitionNumber p t.method d k × IsNode inputs x t.method k)
  pub sites : (t : Statement) (a : Access) → Contains accesses (t, a) → IsOrderedListOf SiteBefore a.sites (OperandSite p s t 0)

-- what the value of each statement may be, of each whose value may be something; of others nothing, or no site
pub record AreValues (p : Program) (s : System) (values : List (Statement × List SiteId)) : Type 0 where
  pub order : RiseBy statement_cmp key_of_value values
  pub each : (t : Statement) (hs : List SiteId) → Contains values (t, hs) → RunsIn p s t (λ op. Unit {0}) × IsOrderedListOf SiteBefore hs (ValueSite p s t)
  pub whole : (t : Statement) (h : SiteId) → RunsIn p s t (λ op. Unit {0}) → ValueSite p s t h → (hs : List SiteId) × Contains values (t, hs)

-- the names of classes
pub record AreClassNames (p : Program) (classes : List (List ℕ)) : Type 0 where
  pub count : length classes ≡ length p.classes
  pub each : (c : ℕ) (k : ClassFile) → IsClass p.classes c k → (name : List ℕ) × (class_name k ≡ Some name) × (slice_get classes c ≡ Some name)

-- the statement of one of the methods has this line, or none
abbrev pub HasLineOf : List MethodText → Statement → Option ℕ → Type 0
HasLineOf methods t line = (x : MethodText) × (slice_get methods t.method.0 ≡ Some x) × HasLineIn x t.pc line

-- the class, name and descriptor of each method, and the lines of its statements
pub record AreMethodTexts (p : Program) (s : System) (methods : List MethodText) : Type 0 where
  pub count : length methods ≡ length p.methods
  pub texts : (m : MethodId) (d : Declared) (x : Member) (name descriptor : List ℕ) → MethodOf p m d x name descriptor →
      (t : MethodText) × (slice_get methods m.0 ≡ Some t) × (t.class.0 ≡ d.class) × (t.name ≡ name) × (t.descriptor ≡ descriptor)
  pub statements : (t : Statement) → RunsIn p s t (λ op. Unit {0}) ↔ IsStatementOf methods t
  pub lines : (t : Statement) (line : Option ℕ) → RunsIn p s t (λ op. Unit {0}) → HasLineOf methods t line ↔ IsLineOf p t line

-- a statement of the class at the line
abbrev pub IsAtLine : Program → System → ClassId → ℕ → Statement → Type 0
IsAtLine p s c line t = RunsIn p s t (λ op. Unit {0}) × IsLineOf p t (Some line) × ((k : ClassFile) × ClassOf p t.method c.0 k)

-- the statements of each class at each line, of each line that has some; of other lines nothing, or no statement
pub record AreLines (p : Program) (s : System) (lines : List (ClassId × ℕ × List Statement)) : Type 0 where
  pub order : RiseBy line_cmp key_of_line lines
  pub classes : (c : ClassId) (line : ℕ) (ts : List Statement) → Contains lines (c, line, ts) → c.0 < length p.classes
  pub each : (c : ClassId) (line : ℕ) (ts : List Statement) → Contains lines (c, line, ts) → IsOrderedListOf StatementBefore ts (IsAtLine p s c line)
  pub whole : (c : ClassId) (line : ℕ) (t : Statement) → IsAtLine p s c line t → (ts : List Statement) × Contains lines (c, line, ts)

-- the sites of the system, each with the text of its class or array
pub record AreSiteNames (p : Program) (s : System) (sites : List SiteName) : Type 0 where
  pub count : length sites ≡ length s.sites
  pub places : (n : SiteId) (x : SiteName) (info : SiteInfo) → slice_get sites n.0 ≡ Some x → IsSite s n info → (x.place ≡ info.place) × (x.k ≡ info.k)
  pub texts : (n : SiteId) (x : SiteName) (h : Site) → slice_get sites n.0 ≡ Some x → SiteNumber p n h →
      (t : FieldType) × HasType p h t × (x.class ≡ constant_text t)

-- the parts of facts
pub record Parts : Type 0 where
  pub inputs : List (Option MethodInput)
  pub exits : List NodeId
  pub classes : List (List ℕ)
  pub methods : List MethodText
  pub sites : List SiteName
  pub lines : List (ClassId × ℕ × List Statement)
  pub accesses : List (Statement × Access)
  pub values : List (Statement × List SiteId)

abbrev pub parts_of : Facts → Parts
parts_of f = record { inputs = f.inputs; exits = f.exits; classes = f.classes; methods = f.methods; sites = f.sites; lines = f.lines; accesses = f.accesses; values = f.values }

-- the facts of a program by its system, and by what methods change and read; entries are the methods that the root calls
pub record AreFactTables (p : Program) (s : System) (mr : ModRef) (entries : List MethodId) (t : Parts) : Type 0 where
  pub entry_calls : AreEntryCalls p s entries
  pub inputs : AreInputs p s mr entries t.inputs
  pub exits : IsOrderedListOf NodeBefore t.exits (λ n. (m : MethodId) × IsExitNode t.inputs n m)
  pub accesses : AreAccesses p s t.inputs t.accesses
  pub values : AreValues p s t.values
  pub classes : AreClassNames p t.classes
  pub methods : AreMethodTexts p s t.methods
  pub lines : AreLines p s t.lines
  pub sites : AreSiteNames p s t.sites

-- the facts are such
abbrev pub IsFactSystem : Program → System → ModRef → Facts → Type 0
IsFactSystem p s mr f = (entries : List MethodId) × AreFactTables p s mr entries (parts_of f)

-- so many nodes, methods, exits and classes have numbers of 32 bits
pub record AreFewParts (t : Parts) : Type 0 where
  pub nodes : node_count t.inputs ≤ 2 ^ 24
  pub methods : length t.inputs < 2 ^ 32
  pub exits : length t.exits < 2 ^ 32
  pub classes : length t.classes < 2 ^ 32

-- by method, and last of the root, the nodes in order
pub record AreNodeRows (p : Program) (s : System) (mr : ModRef) (entries : List MethodId) (rows : List (List NodeNumber)) : Type 0 where
  pub count : length rows ≡ suc (length s.methods)
  pub each : (m : MethodId) (ks : List NodeNumber) → slice_get rows m.0 ≡ Some ks → IsOrderedListOf ComesBefore ks (IsNumbered p s mr entries m)

-- how many words the rows of summaries of a method take: for each exit and each of the two modes a gate, and a word for each 64 formals
abbrev pub words_in : List NodeNumber → ℕ
words_in ks = count_by is_exit ks * (2 * suc ((count_by is_formal ks + 63) / 64))
