-- The program of a folder's class files, and what is tried of it before it is accepted.
use Rattle.std.specs.Prelude.{◌≡◌, ◌≤◌, ◌<◌, ◌^◌, ℕ, List, Option, Some, None, length}
use Rattle.slicer_ids.specs.declared.limits.LimitKind.{LimitKind}
use Rattle.slicer_ids.specs.declared.limits.LimitKind.TheVariants.{Methods, Sites, Locations}
use Rattle.class_form.specs.Folders.{IsHierarchyOf}
use Rattle.class_form.specs.declared.class_file.ClassFile.{ClassFile}
use Rattle.class_form.specs.declared.types.FieldType.{FieldType}
use Rattle.dep_form.specs.Summaries.{HasSize}
use Rattle.dep_form.specs.declared.rules.TooMany.TheVariants.{Limit}
use Rattle.program_form.specs.Programs.{Program}
use Rattle.program_form.specs.Sites.{Site, HasType}
use Rattle.program_form.specs.Effects.{IsTraced}
use Rattle.program_code.specs.Codes.{IsProgramOfCode}
use Rattle.call_graph.specs.Entries.{AreEntries}
use Rattle.call_graph.specs.Refusals.{IsRefused, IsFirst}
use Rattle.call_graph.specs.declared.refusals.Refused.{Refused}
use Rattle.fact_form.specs.FactLimits.{IsTooMany, IsWithinLimits}
use Rattle.refusal_lines.specs.Refusals.{limit_refusal}
use Rattle.acceptance.specs.Statements.{IsStatementText, statement_refusal}

-- the program of class files: their classes in order, none its own ancestor; its bodies are those of its code, its entries those of
-- all classes or of the one of a name
pub record IsProgramOf (files : List ClassFile) (main : Option (List ℕ)) (p : Program) : Type 0 where
  pub classes : IsHierarchyOf files p.classes
  pub code : IsProgramOfCode p
  pub entries : AreEntries p.classes main p.entries

-- an allocation site of the program
abbrev pub IsSite : Program → Site → Type 0
IsSite p h = (t : FieldType) × HasType p h t

-- what is counted is not above a limit
abbrev pub AreAtMost : {A : Type 0} → (A → Type 0) → ℕ → Type 0
AreAtMost P most = (n : ℕ) × HasSize P n × (n ≤ most)

-- .. or is so many, above it
abbrev pub AreTooMany : {A : Type 0} → (A → Type 0) → ℕ → ℕ → Type 0
AreTooMany P most n = HasSize P n × (most < n)

-- methods and sites are within their limits
pub record AreFew (p : Program) : Type 0 where
  pub methods : length p.methods ≤ 2 ^ 16
  pub sites : AreAtMost (IsSite p) (2 ^ 20)

-- .. and no statement that is reached is refused
pub record IsAnalysed (p : Program) : Type 0 where
  pub few : AreFew p
  pub allowed : IsFirst (IsRefused p) None

-- .. and so are locations, nodes and the words of summaries
pub record IsAccepted (p : Program) : Type 0 where
  pub analysed : IsAnalysed p
  pub locations : AreAtMost (IsTraced p) (2 ^ 20)
  pub facts : IsWithinLimits p

-- the program is refused with a line: the first of these that applies
pub data RefusesProgram (p : Program) : List ℕ → Type 0 where
  methods : 2 ^ 16 < length p.methods → RefusesProgram p (limit_refusal Methods (length p.methods))
  sites : {n : ℕ} → length p.methods ≤ 2 ^ 16 → AreTooMany (IsSite p) (2 ^ 20) n → RefusesProgram p (limit_refusal Sites n)
  statement : {r : Refused} {text : List ℕ} → AreFew p → IsFirst (IsRefused p) (Some r) → IsStatementText p r.place text →
      RefusesProgram p (statement_refusal r.kind text)
  locations : {n : ℕ} → IsAnalysed p → AreTooMany (IsTraced p) (2 ^ 20) n → RefusesProgram p (limit_refusal Locations n)
  facts : {kind : LimitKind} {n : ℕ} → IsAnalysed p → AreAtMost (IsTraced p) (2 ^ 20) → IsTooMany p (Limit kind n) → RefusesProgram p (limit_refusal kind n)
