-- What a run answers, says and leaves, where nothing fails but by a path that isn't there or is of the wrong kind.
use Rattle.std.specs.Prelude.{◌≡◌, ℕ, List, Option, Some, None}
use Rattle.edge_io.specs.Files.{Files, IsFolder}
use Rattle.dep_form.specs.declared.facts.Facts.{Facts}
use Rattle.program_form.specs.Programs.{Program}
use Rattle.program_form.specs.Graphs.{Numbering, AreFactsOf}
use Rattle.acceptance.specs.Refusals.{Accepts, IsRefusal}
use Rattle.words.specs.declared.request.Request.{Request}
use Rattle.words.specs.Scripts.{AreScripts}
use Rattle.words.specs.Asking.{asked}
use Rattle.run_form.specs.Said.{line, usage_line, host_fault_line}
use Rattle.run_form.specs.Outputs.{IsPathFault, IsServed}

-- the folder is accepted
abbrev pub IsAccepted : Files → Request → Type 0
IsAccepted m r = (p : Program) × Accepts m r.folder r.main p

-- the facts are those of the accepted folder's program; how they are numbered is free
pub record AreItsFacts (m : Files) (r : Request) (f : Facts) : Type 0 where
  pub program : Program
  pub accepted : Accepts m r.folder r.main program
  pub numbering : Numbering
  pub facts : AreFactsOf program numbering f

-- what a run over these files answers, says and leaves that is asked for this: the first of these that applies
pub data Runs (m : Files) (r : Request) : ℕ → List ℕ → Files → Type 0 where
  usage : (AreScripts r.scripts → ⊥) → Runs m r 2 usage_line m
  no_folder : AreScripts r.scripts → (IsFolder m r.folder → ⊥) → Runs m r 3 host_fault_line m
  refused : {text : List ℕ} → AreScripts r.scripts → IsRefusal m r.folder r.main text → Runs m r 4 (line text) m
  no_path : {after : Files} → AreScripts r.scripts → IsAccepted m r → IsPathFault m r.scripts after → Runs m r 3 host_fault_line after
  served : {f : Facts} {said : List ℕ} {after : Files} → AreScripts r.scripts → AreItsFacts m r f → IsServed f m r.scripts said after → Runs m r 0 said after

-- what a run answers, says and leaves whose words ask for this, or for nothing
abbrev pub RunOf : Files → Option Request → ℕ → List ℕ → Files → Type 0
RunOf m None status said after = (status ≡ 2) × (said ≡ usage_line) × (after ≡ m)
RunOf m (Some r) status said after = Runs m r status said after

-- .. by the words
abbrev pub RunOfWords : Files → List (List ℕ) → ℕ → List ℕ → Files → Type 0
RunOfWords m words = RunOf m (asked words)
