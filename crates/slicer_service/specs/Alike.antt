-- Runs over folders that are alike.
use Rattle.std.specs.Prelude.{◌≡◌, ℕ, List, Some, slice_get}
use Rattle.std.specs.FinMap as map
use Rattle.edge_io.specs.Files.{Files, inside}
use Rattle.dep_form.specs.declared.facts.Facts.{Facts}
use Rattle.words.specs.declared.request.Request.{Request}
use Rattle.run_form.specs.Said.{Ending, Done}
use Rattle.run_form.specs.Runs.{AreItsFacts}
use Rattle.run_form.specs.Endings.{HaveEnded}

-- the same stands at the folder's path, and at each path below it
pub record AgreeIn (folder : List ℕ) (m n : Files) : Type 0 where
  pub there : map.get m folder ≡ map.get n folder
  pub below : (name : List ℕ) → map.get m (inside folder name) ≡ map.get n (inside folder name)

-- the sessions of a run over these files ended so, among them one on the script, which is done
pub record IsDoneIn (m : Files) (r : Request) (script : List ℕ) (after : Files) : Type 0 where
  pub program_facts : Facts
  pub its : AreItsFacts m r program_facts
  pub ends : List Ending
  pub ended : HaveEnded program_facts m r.scripts ends after
  pub number : ℕ
  pub replies : ℕ
  pub script_at : slice_get r.scripts number ≡ Some script
  pub done_at : slice_get ends number ≡ Some (Done replies)
