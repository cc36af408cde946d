-- The sessions of all scripts, ready to begin, at their ends, and what a run is then.
use Rattle.std.specs.Prelude.{◌≡◌, ◌≢◌, ℕ, Bool, true, List, length, Option, Some, IfSome, slice_get}
use Rattle.edge_io.specs.Files.{Files, HasFile}
use Rattle.edge_io.specs.Reads.{appended}
use Rattle.dep_form.specs.declared.facts.Facts.{Facts}
use Rattle.words.specs.Scripts.{output_of}
use Rattle.sessions.specs.declared.desk.Outcome.{Outcome}
use Rattle.run_form.specs.Outputs.{AreFree}
use Rattle.run_form.specs.Endings.{HasWritten, IsCaused}
use Rattle.serving.specs.Ends.{AreOpened, AreMade, AreCreated}
use Rattle.serving.specs.Attended.{ending_of}
use Rattle.serving.specs.Served.{SaysOnScripts, KeepsPaths}

-- the scripts are open and their outputs are made, over told files: nothing was read or written since
pub record AreReady {S K : Type 0} (left : S → Option (List ℕ)) (source_steady : S → Bool) (written : K → Option (List ℕ)) (label : K → List ℕ) (sink_steady : K → Bool)
    (files now : Option Files) (sources sinks : List ℕ → Bool) (scripts : List (List ℕ)) (opened : List S) (made : List K) : Type 0 where
  pub are_opened : AreOpened left source_steady files sources scripts opened
  pub are_made : AreMade written label sink_steady files sinks scripts made
  pub created : AreCreated scripts files now
  pub free : IfSome files (λ m. AreFree m scripts)

-- the session on the script ended so, and its sink has what it wrote
pub record IsEnd {K : Type 0} (written : K → Option (List ℕ)) (label : K → List ℕ) (f : Facts) (files : Option Files) (sources sinks : List ℕ → Bool) (script : List ℕ) (how : Outcome) (s : K) : Type 0 where
  pub output : label s ≡ output_of script
  pub wrote : IfSome files (λ m. (bytes : List ℕ) × HasFile m script bytes × (w : List ℕ) × (written s ≡ Some w) × HasWritten f bytes (ending_of how) w)
  pub caused : IsCaused sources sinks script (ending_of how)

-- .. of each script, in order, and no sink is closed yet
pub record HaveAllEnded {K : Type 0} (written : K → Option (List ℕ)) (label : K → List ℕ) (f : Facts) (files now : Option Files) (sources sinks : List ℕ → Bool)
    (scripts : List (List ℕ)) (outcomes : List Outcome) (open_sinks : List K) : Type 0 where
  pub count : length outcomes ≡ length scripts
  pub sink_count : length open_sinks ≡ length scripts
  pub each : (k : ℕ) (script : List ℕ) → slice_get scripts k ≡ Some script →
      (how : Outcome) × (s : K) × (slice_get outcomes k ≡ Some how) × (slice_get open_sinks k ≡ Some s) × IsEnd written label f files sources sinks script how s
  pub created : AreCreated scripts files now

-- what the run said and left from there on, and that a steady host's calls didn't fail
pub record RanOn (f : Facts) (files files_after : Option Files) (said said_after : Option (List ℕ)) (sources sinks : List ℕ → Bool) (is_steady : Bool) (scripts : List (List ℕ)) (status : ℕ) : Type 0 where
  pub says : (told : List ℕ) × (said_after ≡ appended told said) × SaysOnScripts f files files_after sources sinks scripts status told
  pub keeps : KeepsPaths f files files_after scripts
  pub sure : is_steady ≡ true → IfSome files (λ m. status ≢ 3)
