-- How the scripts of a run end, over told files.
use Rattle.std.specs.Prelude.{◌≡◌, ◌≢◌, ◌⊎◌, ℕ, Bool, List, Option, Some, IfSome, length}
use Rattle.edge_io.specs.Files.{Files}
use Rattle.edge_io.specs.Reads.{appended}
use Rattle.dep_form.specs.declared.facts.Facts.{Facts}
use Rattle.run_form.specs.Said.{Ending, host_fault_line}
use Rattle.run_form.specs.Outputs.{IsPathFault, IsServed}
use Rattle.run_form.specs.Endings.{AreCaused, HaveEnded, KeepsOthers, SaysFault, SaysAfter}

-- every script was served to its end
abbrev pub AreServedTo : Facts → Option Files → Option Files → Option (List ℕ) → Option (List ℕ) → List (List ℕ) → Type 0
AreServedTo f files files_after said said_after scripts =
    IfSome files (λ m. (told : List ℕ) × (after : Files) × IsServed f m scripts told after × (files_after ≡ Some after) × (said_after ≡ appended told said))

-- a path isn't there or is of the wrong kind, and it was said that a call of the host failed
abbrev pub PathFails : Option Files → Option Files → Option (List ℕ) → Option (List ℕ) → List (List ℕ) → Type 0
PathFails files files_after said said_after scripts =
    IfSome files (λ m. (after : Files) × IsPathFault m scripts after × (files_after ≡ Some after) × (said_after ≡ appended host_fault_line said))

-- the sessions ended so; their outputs have what they wrote, unless a call of the host failed
pub record ScriptsEnd (f : Facts) (files files_after : Option Files) (sources sinks : List ℕ → Bool) (scripts : List (List ℕ)) (status : ℕ) (ends : List Ending) : Type 0 where
  pub count : length ends ≡ length scripts
  pub causes : AreCaused sources sinks scripts ends
  pub closed : status ≢ 3 → IfSome files (λ m. (after : Files) × (files_after ≡ Some after) × HaveEnded f m scripts ends after)

-- what was said: nothing on sessions that didn't begin, and on others how each ended
abbrev pub SaysOnScripts : Facts → Option Files → Option Files → (List ℕ → Bool) → (List ℕ → Bool) → List (List ℕ) → ℕ → List ℕ → Type 0
SaysOnScripts f files files_after sources sinks scripts status told =
    SaysFault status told ⊎ ((ends : List Ending) × ScriptsEnd f files files_after sources sinks scripts status ends × SaysAfter ends status told)

-- outputs have what they had, or some of the first bytes of the replies, and every other path what it had
abbrev pub KeepsPaths : Facts → Option Files → Option Files → List (List ℕ) → Type 0
KeepsPaths f files files_after scripts = IfSome files (λ m. (after : Files) × (files_after ≡ Some after) × KeepsOthers f m scripts after)
