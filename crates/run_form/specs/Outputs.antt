-- What the sessions of a run leave in its files.
use Rattle.std.specs.Prelude.{◌≡◌, ◌≢◌, ◌<◌, ℕ, List, [], ◌∷◌, length, map, take, slice_get, Some}
use Rattle.std.specs.List.{flat_map}
use Rattle.std.specs.FinMap as map
use Rattle.edge_io.specs.Files.{Files, HasFile, IsFile, IsFolder}
use Rattle.dep_form.specs.declared.facts.Facts.{Facts}
use Rattle.report.specs.Replies.{Answer, text}
use Rattle.session_form.specs.Scripts.{AreScriptReplies}
use Rattle.words.specs.Scripts.{output_of}
use Rattle.run_form.specs.Said.{Ending, Done, session_lines}

-- the replies to none of the scripts go to the path
abbrev pub IsNoOutput : List (List ℕ) → List ℕ → Type 0
IsNoOutput scripts path = (k : ℕ) (script : List ℕ) → slice_get scripts k ≡ Some script → path ≢ output_of script

-- afterwards the output of each of these scripts has its text, in their order, and every other path what it had
pub record HasOutputs (before : Files) (scripts texts : List (List ℕ)) (after : Files) : Type 0 where
  pub count : length texts ≡ length scripts
  pub there : (k : ℕ) (script bytes : List ℕ) → slice_get scripts k ≡ Some script → slice_get texts k ≡ Some bytes → HasFile after (output_of script) bytes
  pub others : (path : List ℕ) → IsNoOutput scripts path → map.get after path ≡ map.get before path

-- each script is a file, and these are its replies, by the facts
pub data AreServed (f : Facts) (m : Files) : List (List ℕ) → List (List Answer) → Type 0 where
  none : AreServed f m [] []
  one : {script bytes : List ℕ} {scripts : List (List ℕ)} {answers : List Answer} {replies : List (List Answer)} → HasFile m script bytes →
      AreScriptReplies f bytes answers → AreServed f m scripts replies → AreServed f m (script ∷ scripts) (answers ∷ replies)

-- how a session ended all of whose replies are whole
abbrev pub done_of : List Answer → Ending
done_of answers = Done (length answers)

-- what is written for a script
abbrev pub text_of : Facts → List Answer → List ℕ
text_of f answers = flat_map (text f) answers

-- what an output has that was only created
abbrev pub no_text : List ℕ → List ℕ
no_text script = []

-- each of the scripts is a file
abbrev pub AreFiles : Files → List (List ℕ) → Type 0
AreFiles m scripts = (k : ℕ) (script : List ℕ) → slice_get scripts k ≡ Some script → IsFile m script

-- no folder stands at the output of any of the scripts
abbrev pub AreFree : Files → List (List ℕ) → Type 0
AreFree m scripts = (k : ℕ) (script : List ℕ) → slice_get scripts k ≡ Some script → IsFolder m (output_of script) → ⊥

-- a folder stands at the output of the script of this number, and at that of none before it
pub record IsFirstFolder (m : Files) (scripts : List (List ℕ)) (k : ℕ) : Type 0 where
  pub script : List ℕ
  pub there : slice_get scripts k ≡ Some script
  pub folder : IsFolder m (output_of script)
  pub before : (i : ℕ) (other : List ℕ) → i < k → slice_get scripts i ≡ Some other → IsFolder m (output_of other) → ⊥

-- a path isn't there or is of the wrong kind: first that of a script, before any output is made; else that of an output, after those
-- before it were made
pub data IsPathFault (m : Files) (scripts : List (List ℕ)) : Files → Type 0 where
  no_script : (k : ℕ) (script : List ℕ) → slice_get scripts k ≡ Some script → (IsFile m script → ⊥) → IsPathFault m scripts m
  no_output : {k : ℕ} {after : Files} → AreFiles m scripts → IsFirstFolder m scripts k → HasOutputs m (take k scripts) (map no_text (take k scripts)) after →
      IsPathFault m scripts after

-- every script is served to its end: what is said, and what is there afterwards
pub record IsServed (f : Facts) (m : Files) (scripts : List (List ℕ)) (said : List ℕ) (after : Files) : Type 0 where
  pub replies : List (List Answer)
  pub served : AreServed f m scripts replies
  pub free : AreFree m scripts
  pub outputs : HasOutputs m scripts (map (text_of f) replies) after
  pub lines : said ≡ session_lines 1 (map done_of replies)
