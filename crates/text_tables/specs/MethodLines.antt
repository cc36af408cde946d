-- The lines of the statements of a method.
use Rattle.std.specs.Prelude.{◌≡◌, ◌<◌, ◌↔◌, ℕ, List, Option, Some, AllPairs, length, map, slice_get}
use Rattle.slicer_ids.specs.declared.ids.ClassId.{ClassId}
use Rattle.slicer_ids.specs.declared.ids.MethodId.{MethodId}
use Rattle.slicer_ids.specs.declared.ids.Statement.{Statement}
use Rattle.class_form.specs.declared.body.Body.{Body}
use Rattle.class_form.specs.declared.body.Point.{Point}
use Rattle.class_form.specs.declared.class_file.ClassFile.{ClassFile}
use Rattle.class_form.specs.declared.class_file.CodeBody.{CodeBody}
use Rattle.dep_form.specs.declared.solution.Solution.{Solution}
use Rattle.dep_form.specs.declared.system.System.{System}
use Rattle.dep_form.specs.declared.texts.MethodText.{MethodText}
use Rattle.dep_form.specs.Solutions.{IsSolutionOf}
use Rattle.hierarchy.specs.Places.{texts_at}
use Rattle.hierarchy.specs.declared.members.Kind.TheVariants.{Method}
use Rattle.line_numbers.specs.LineTables.{IsLineAt, lines_of}
use Rattle.program_form.specs.Programs.{Program}
use Rattle.program_form.specs.Statements.{HasOpcode}
use Rattle.program_form.specs.Lines.{IsLineOf}
use Rattle.fact_form.specs.FactTables.{RunsIn}
use Rattle.text_tables.specs.SiteNames.{IsCoded}

-- points are in order of their program counters
abbrev pub ArePointsInOrder : List Point → Type 0
ArePointsInOrder points = AllPairs (λ (q r : Point). q.pc < r.pc) points

abbrev pub HasPointsInOrder : Body → Type 0
HasPointsInOrder b = ArePointsInOrder b.shape.points

-- a point and a line
abbrev pub entry_of : (ℕ → Option ℕ) → Point → ℕ × Option ℕ
entry_of line q = (q.pc, line q.pc)

-- the points, each with its line by the line tables of the code
pub record AreLinesOf (code : CodeBody) (points : List Point) (lines : List (ℕ × Option ℕ)) : Type 0 where
  pub line : ℕ → Option ℕ
  pub listed : lines ≡ map (entry_of line) points
  pub is : (pc : ℕ) → IsLineAt (lines_of code) pc (line pc)

-- the list has this program counter, and has it with this line
abbrev pub HasPcIn : List (ℕ × Option ℕ) → ℕ → Type 0
HasPcIn lines pc = (k : ℕ) × (x : ℕ × Option ℕ) × (slice_get lines k ≡ Some x) × (x.0 ≡ pc)

abbrev pub HasLineIn : List (ℕ × Option ℕ) → ℕ → Option ℕ → Type 0
HasLineIn lines pc line = (k : ℕ) × (x : ℕ × Option ℕ) × (slice_get lines k ≡ Some x) × (x.0 ≡ pc) × (x.1 ≡ line)

abbrev pub statement_at : MethodId → ℕ → Statement
statement_at m pc = record { method = m; pc = pc }

-- the statements of the method for which Is holds, with their lines
pub record AreLinesWhere (p : Program) (Is : Statement → Type 0) (m : MethodId) (entries : List (ℕ × Option ℕ)) : Type 0 where
  pub statements : (pc : ℕ) → Is (statement_at m pc) ↔ HasPcIn entries pc
  pub lines : (pc : ℕ) (line : Option ℕ) → Is (statement_at m pc) → HasLineIn entries pc line ↔ IsLineOf p (statement_at m pc) line

-- all statements of the method; those that may run
abbrev pub AreMethodLines : Program → MethodId → List (ℕ × Option ℕ) → Type 0
AreMethodLines p = AreLinesWhere p (λ t. HasOpcode p t (λ op. Unit {0}))

abbrev pub AreRunLines : Program → System → MethodId → List (ℕ × Option ℕ) → Type 0
AreRunLines p s = AreLinesWhere p (λ t. RunsIn p s t (λ op. Unit {0}))

-- the text of the method of this number, which is declared at the place
pub record IsTextOf (classes : List ClassFile) (bodies : List Body) (sol : Solution) (m : MethodId) (place : ClassId × ℕ) (t : MethodText) : Type 0 where
  pub class : t.class ≡ place.0
  pub name : t.name ≡ (texts_at Method classes place).name
  pub descriptor : t.descriptor ≡ (texts_at Method classes place).descriptor
  pub lines : (p : Program) (s : System) → IsCoded classes bodies p → IsSolutionOf s sol → AreRunLines p s m t.lines

-- .. of the first so many methods
pub record AreTextsBelow (classes : List ClassFile) (bodies : List Body) (sol : Solution) (places : List (ClassId × ℕ)) (count : ℕ) (texts : List MethodText) : Type 0 where
  pub size : length texts ≡ count
  pub each : (m : MethodId) (t : MethodText) → slice_get texts m.0 ≡ Some t → (place : ClassId × ℕ) × (slice_get places m.0 ≡ Some place) × IsTextOf classes bodies sol m place t
