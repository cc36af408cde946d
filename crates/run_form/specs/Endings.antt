-- How a run ends, seen from its host, whose sessions end in any way.
use Rattle.std.specs.Prelude.{◌≡◌, ◌≢◌, ◌⊎◌, ◌≤◌, ◌<◌, ◌++◌, ℕ, Bool, true, false, List, [], Option, Some, None, IfSome, length, take, drop, slice_get, if◌then◌else◌}
use Rattle.std.specs.List.{list_any}
use Rattle.std.specs.FinMap as map
use Rattle.edge_io.specs.Files.{Files, HasFile}
use Rattle.edge_io.specs.Reads.{appended}
use Rattle.dep_form.specs.declared.facts.Facts.{Facts}
use Rattle.report.specs.Replies.{Answer}
use Rattle.session_form.specs.Scripts.{AreScriptReplies}
use Rattle.acceptance.specs.Refusals.{IsRefusal}
use Rattle.words.specs.declared.request.Request.{Request}
use Rattle.words.specs.Scripts.{AreScripts, output_of}
use Rattle.run_form.specs.Said.{Ending, Done, ReadFault, WriteFault, NoMemory, line, usage_line, host_fault_line, session_lines}
use Rattle.run_form.specs.Outputs.{IsNoOutput, text_of}
use Rattle.run_form.specs.Runs.{AreItsFacts, RunOf}

-- the run over told files answers, says and leaves what its definition gives
abbrev pub RunsAs : Option Files → Option Files → Option (List ℕ) → Option (List ℕ) → Option Request → ℕ → Type 0
RunsAs files files_after said said_after asked status =
    IfSome files (λ m. (told : List ℕ) × (after : Files) × RunOf m asked status told after × (files_after ≡ Some after) × (said_after ≡ appended told said))

-- ---- what sessions write

-- so many of the replies are written whole, and of the next one less than the whole
pub record IsPart (f : Facts) (answers : List Answer) (n : ℕ) (bytes : List ℕ) : Type 0 where
  pub whole : n ≤ length answers
  pub more : ℕ
  pub less : (more ≡ 0) ⊎ (more < length (text_of f (take 1 (drop n answers))))
  pub spells : bytes ≡ text_of f (take n answers) ++ take more (text_of f (drop n answers))

-- all replies to the script were written
abbrev pub IsWhole : Facts → List ℕ → ℕ → List ℕ → Type 0
IsWhole f script n bytes = (answers : List Answer) × AreScriptReplies f script answers × (n ≡ length answers) × (bytes ≡ text_of f answers)

-- some of them were. That a script has replies nothing computes here, so this speaks of those that are replies
abbrev pub IsBegun : Facts → List ℕ → ℕ → List ℕ → Type 0
IsBegun f script n bytes = (answers : List Answer) → AreScriptReplies f script answers → IsPart f answers n bytes

-- a session on the script that ended so has written this
abbrev pub HasWritten : Facts → List ℕ → Ending → List ℕ → Type 0
HasWritten f script (Done n) bytes = IsWhole f script n bytes
HasWritten f script (ReadFault n) bytes = IsBegun f script n bytes
HasWritten f script (WriteFault n) bytes = IsBegun f script n bytes
HasWritten f script (NoMemory n) bytes = IsBegun f script n bytes

-- the output of the script has some of the first bytes of its text
pub record HasBeginning (f : Facts) (m : Files) (script : List ℕ) (after : Files) : Type 0 where
  pub bytes : List ℕ
  pub there : HasFile m script bytes
  pub part : List ℕ
  pub output : HasFile after (output_of script) part
  pub begins : (answers : List Answer) → AreScriptReplies f bytes answers → (left : List ℕ) × (text_of f answers ≡ part ++ left)

-- the files are as they were, but that each output may have a beginning of its script's text
pub record KeepsOthers (f : Facts) (m : Files) (scripts : List (List ℕ)) (after : Files) : Type 0 where
  pub others : (path : List ℕ) → IsNoOutput scripts path → map.get after path ≡ map.get m path
  pub outputs : (k : ℕ) (script : List ℕ) → slice_get scripts k ≡ Some script →
      (map.get after (output_of script) ≡ map.get m (output_of script)) ⊎ HasBeginning f m script after

-- the session on the script ended so, and its closed output has what it wrote
pub record HasEnded (f : Facts) (m : Files) (script : List ℕ) (e : Ending) (after : Files) : Type 0 where
  pub bytes : List ℕ
  pub there : HasFile m script bytes
  pub written : List ℕ
  pub wrote : HasWritten f bytes e written
  pub output : HasFile after (output_of script) written

-- every session ended so
pub record HaveEnded (f : Facts) (m : Files) (scripts : List (List ℕ)) (ends : List Ending) (after : Files) : Type 0 where
  pub count : length ends ≡ length scripts
  pub each : (k : ℕ) (script : List ℕ) (e : Ending) → slice_get scripts k ≡ Some script → slice_get ends k ≡ Some e → HasEnded f m script e after
  pub others : (path : List ℕ) → IsNoOutput scripts path → map.get after path ≡ map.get m path

-- ---- why sessions end so

-- a fault comes only of an end that isn't steady: the source of the script, or the sink of its output
abbrev pub IsCaused : (List ℕ → Bool) → (List ℕ → Bool) → List ℕ → Ending → Type 0
IsCaused sources sinks script (Done n) = Unit {0}
IsCaused sources sinks script (ReadFault n) = sources script ≡ true → ⊥
IsCaused sources sinks script (WriteFault n) = sinks (output_of script) ≡ true → ⊥
IsCaused sources sinks script (NoMemory n) = Unit {0}

abbrev pub AreCaused : (List ℕ → Bool) → (List ℕ → Bool) → List (List ℕ) → List Ending → Type 0
AreCaused sources sinks scripts ends = (k : ℕ) (script : List ℕ) (e : Ending) → slice_get scripts k ≡ Some script → slice_get ends k ≡ Some e → IsCaused sources sinks script e

-- the source of each script and the sink of its output are steady
abbrev pub AreSteady : (List ℕ → Bool) → (List ℕ → Bool) → List (List ℕ) → Type 0
AreSteady sources sinks scripts = (k : ℕ) (script : List ℕ) → slice_get scripts k ≡ Some script → (sources script ≡ true) × (sinks (output_of script) ≡ true)

-- ---- statuses and what is said

abbrev pub is_no_memory : Ending → Bool
is_no_memory (NoMemory n) = true
is_no_memory _ = false

abbrev pub is_fault : Ending → Bool
is_fault (ReadFault n) = true
is_fault (WriteFault n) = true
is_fault _ = false

-- the status of a run whose sessions ended so, and none of whose closes and sayings failed: want of memory comes before a fault
abbrev pub status_of : List Ending → ℕ
status_of ends = if list_any is_no_memory ends then 1 else (if list_any is_fault ends then 5 else 0)

-- what a run has said that failed by a call, or for want of memory, before its sessions
abbrev pub SaysFault : ℕ → List ℕ → Type 0
SaysFault status told = ((status ≡ 1) × (told ≡ [])) ⊎ ((status ≡ 3) × ((told ≡ []) ⊎ (told ≡ host_fault_line)))

-- what a run has said whose words ask for nothing, or for scripts that can't be served beside one another
abbrev pub SaysUsage : ℕ → List ℕ → Type 0
SaysUsage status told = ((status ≡ 2) × (told ≡ usage_line)) ⊎ SaysFault status told

-- what a run has said whose sessions didn't begin. Where the files are told, the line is that of the folder's refusal
abbrev pub SaysBefore : Option Files → Request → ℕ → List ℕ → Type 0
SaysBefore files r status told =
    SaysFault status told ⊎ ((status ≡ 4) × (refusal : List ℕ) × (told ≡ line refusal) × IfSome files (λ m. IsRefusal m r.folder r.main refusal))

-- what a run has said whose sessions ended so: a line on each; or where a line couldn't be said, those before it; and after a close or
-- a saying that failed, that a call of the host failed, where that could be said
pub data SaysAfter (ends : List Ending) : ℕ → List ℕ → Type 0 where
  all_said : SaysAfter ends (status_of ends) (session_lines 1 ends)
  some_said : (n : ℕ) → SaysAfter ends 1 (session_lines 1 (take n ends))
  failed : (n : ℕ) → SaysAfter ends 3 (session_lines 1 (take n ends))
  fault_said : (n : ℕ) → SaysAfter ends 3 (session_lines 1 (take n ends) ++ host_fault_line)

-- the sessions ended so; where no close failed, which only status 3 hides, their outputs have what they wrote
pub record SessionsEnd (files files_after : Option Files) (sources sinks : List ℕ → Bool) (r : Request) (status : ℕ) (ends : List Ending) : Type 0 where
  pub count : length ends ≡ length r.scripts
  pub causes : AreCaused sources sinks r.scripts ends
  pub closed : status ≢ 3 → IfSome files (λ m. (f : Facts) × (after : Files) × AreItsFacts m r f × (files_after ≡ Some after) × HaveEnded f m r.scripts ends after)

-- what a run has said: nothing on sessions that didn't begin, and on others how each ended
abbrev pub Says : Option Files → Option Files → (List ℕ → Bool) → (List ℕ → Bool) → Option Request → ℕ → List ℕ → Type 0
Says files files_after sources sinks None status told = SaysUsage status told
Says files files_after sources sinks (Some r) status told =
    ((AreScripts r.scripts → ⊥) × SaysUsage status told)
    ⊎ (AreScripts r.scripts × (SaysBefore files r status told ⊎ ((ends : List Ending) × SessionsEnd files files_after sources sinks r status ends × SaysAfter ends status told)))

-- in every run the files keep what is no output, and outputs what they had, or some of the first bytes of the replies
abbrev pub KeepsFiles : Option Files → Option Files → Option Request → Type 0
KeepsFiles files files_after None = files_after ≡ files
KeepsFiles files files_after (Some r) =
    IfSome files (λ m. (after : Files) × (files_after ≡ Some after) × ((after ≡ m) ⊎ ((f : Facts) × AreItsFacts m r f × KeepsOthers f m r.scripts after)))
