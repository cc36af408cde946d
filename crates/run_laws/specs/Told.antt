-- Runs that said of a session how it ended.
use Rattle.std.specs.Prelude.{◌≡◌, ◌⊎◌, ◌++◌, ℕ, suc, Bool, List, Option, Some, length, slice_get}
use Rattle.edge_io.specs.Files.{Files}
use Rattle.words.specs.declared.request.Request.{Request}
use Rattle.run_form.specs.Said.{Ending, Done, session_line, session_lines}
use Rattle.run_form.specs.Endings.{Says}

-- the text has, after the lines on the sessions before this one, the line that it ended so; sessions are numbered from 0 here, and from 1
-- in the text
pub record IsSaid (told : List ℕ) (number : ℕ) (e : Ending) : Type 0 where
  pub before : List Ending
  pub count : length before ≡ number
  pub left : List ℕ
  pub spells : told ≡ session_lines 1 before ++ (session_line (suc number) e ++ left)

-- a run over these files ended with 0, 1 or 5, and said that the session on the script ended so
pub record SaysOf (m : Files) (files_after : Option Files) (sources sinks : List ℕ → Bool) (r : Request) (script : List ℕ) (e : Ending) : Type 0 where
  pub status : ℕ
  pub told : List ℕ
  pub says : Says (Some m) files_after sources sinks (Some r) status told
  pub ended : (status ≡ 0) ⊎ (status ≡ 1) ⊎ (status ≡ 5)
  pub number : ℕ
  pub script_at : slice_get r.scripts number ≡ Some script
  pub line : IsSaid told number e

-- .. that it was done
pub record SaysDone (m : Files) (files_after : Option Files) (r : Request) (script : List ℕ) : Type 0 where
  pub sources : List ℕ → Bool
  pub sinks : List ℕ → Bool
  pub replies : ℕ
  pub says : SaysOf m files_after sources sinks r script (Done replies)
