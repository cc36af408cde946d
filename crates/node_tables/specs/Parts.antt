-- What nodes are read from, beside what is given.
use Rattle.std.specs.Prelude.{◌≡◌, ◌<◌, ◌≤◌, ◌↔◌, ℕ, Bool, true, List, Some, length, slice_get}
use Rattle.slicer_ids.specs.declared.ids.MethodId.{MethodId}
use Rattle.class_form.specs.declared.class_file.ClassFile.{ClassFile}
use Rattle.dep_form.specs.declared.system.System.{System}
use Rattle.dep_form.specs.Effects.{IsModRefOf}
use Rattle.dep_form.specs.Solutions.{IsSolutionOf}
use Rattle.mod_ref.specs.Direct.{IsSmall}
use Rattle.node_tables.specs.declared.scene.Scene.{Scene}
use Rattle.program_form.specs.Programs.{Program}
use Rattle.program_code.specs.Codes.{IsProgramOfCode}
use Rattle.constraint_form.specs.Asked.{IsReadProgram}
use Rattle.fact_form.specs.EntryCalls.{AreEntryCalls, IsGiven}
use Rattle.fact_form.specs.NodeNumbers.{IsAnswering}

-- which of the first methods have a result
pub record AreAnswers (classes : List ClassFile) (answering : List Bool) (count : ℕ) : Type 0 where
  pub size : length answering ≡ count
  pub each : (p : Program) → p.classes ≡ classes → IsReadProgram p → IsProgramOfCode p → (m : MethodId) (b : Bool) → slice_get answering m.0 ≡ Some b → (b ≡ true) ↔ IsAnswering p m

-- which of the first methods that the root calls it gives their first argument
pub record AreGiven (s : System) (entries : List MethodId) (given : List Bool) (count : ℕ) : Type 0 where
  pub size : length given ≡ count
  pub each : (k : ℕ) (t : MethodId) (b : Bool) → slice_get entries k ≡ Some t → slice_get given k ≡ Some b → (b ≡ true) ↔ IsGiven s t

-- the methods that the root calls, by any program of the classes
abbrev pub AreEntries : System → List ClassFile → List MethodId → Type 0
AreEntries s classes entries = (p : Program) → p.classes ≡ classes → IsProgramOfCode p → AreEntryCalls p s entries

-- the parts were gathered for a system, its solution, and what its methods change and read
pub record IsGathered (classes : List ClassFile) (x : Scene) : Type 0 where
  pub solved : IsSolutionOf x.system.now x.solution.now
  pub effects : IsModRefOf x.system.now x.effects.now
  pub small : IsSmall x.system.now
  pub answering : AreAnswers classes x.answering.now (length x.system.now.methods)
  pub entries : AreEntries x.system.now classes x.entries.now
  pub few : length x.entries.now ≤ 65536
  pub given : AreGiven x.system.now x.entries.now x.given.now (length x.entries.now)
