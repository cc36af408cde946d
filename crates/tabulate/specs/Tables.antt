-- Tables of rows.
use Rattle.std.specs.Prelude.{◌≡◌, ◌≢◌, ◌⊎◌, ℕ, ◌+◌, List, AllPairs, Contains, map}
use Rattle.slicer_ids.specs.declared.ids.ExitId.{ExitId}
use Rattle.slicer_ids.specs.declared.ids.Mode.{Mode}
use Rattle.slicer_ids.specs.Derivations.{HasDerivation}
use Rattle.dep_form.specs.declared.facts.Facts.{Facts}
use Rattle.dep_form.specs.Slices.{ModeEdges}
use Rattle.dep_form.specs.Summaries.{IsRow, IsDemanded, ModePathEdges, HasSize}
use Rattle.tabulate.specs.declared.table.Table.{Table}

-- the exits with a row in the table
abbrev pub exits_of : Table → List ExitId
exits_of t = map (λ r. r.0) t.rows

abbrev pub HasExit : Table → ExitId → Type 0
HasExit t d = Contains (exits_of t) d

-- an exit that is in every set with the first exits of the table and with those of its exits that they demand
abbrev pub IsAskedFor : Facts → Mode → (ExitId → Type 0) → Table → ExitId → Type 0
IsAskedFor f mode First t = HasDerivation (λ K d. HasExit t d × (First d ⊎ IsDemanded f (ModeEdges f.inputs mode) K d))

-- an exit, or one of more
abbrev pub IsFirst : ExitId → List ExitId → ExitId → Type 0
IsFirst e more d = (d ≡ e) ⊎ Contains more d

-- the table of an exit, and of the first exits that have no row to hand. `Had` are the exits with a row to hand before the call, and
-- `Has` those with one after it
pub record IsTableFrom (f : Facts) (mode : Mode) (e : ExitId) (First : ExitId → Type 0) (Had Has : ExitId → Type 0) (t : Table) : Type 0 where
  pub exit : t.exit ≡ e
  pub mode_is : t.mode ≡ mode
  -- the exit's own row is there
  pub own : HasExit t e
  -- each exit is there once, with its whole summary
  pub once : AllPairs (λ a b. a ≢ b) (exits_of t)
  pub rows : (d : ExitId) (row : List ℕ) → Contains t.rows (d, row) → IsRow f mode d row
  -- the set of its exits is the least with the exit itself, and with each of the first and each that they demand that has no row to hand
  pub firsts : (d : ExitId) → First d → HasExit t d ⊎ Has d
  pub whole : (d : ExitId) → IsDemanded f (ModeEdges f.inputs mode) (HasExit t) d → HasExit t d ⊎ Has d
  pub least : (d : ExitId) → HasExit t d → IsAskedFor f mode First t d
  pub wanting : (d : ExitId) → HasExit t d → (d ≡ e) ⊎ (Had d → ⊥)

-- the table of an exit: no other comes first
abbrev pub IsTable : Facts → Mode → ExitId → (ExitId → Type 0) → (ExitId → Type 0) → Table → Type 0
IsTable f mode e = IsTableFrom f mode e (λ d. d ≡ e)

-- one turn was taken for each path edge of the table's exits
abbrev pub IsCounted : Facts → Mode → ℕ → ℕ → Table → Type 0
IsCounted f mode before after t = (n : ℕ) × HasSize (ModePathEdges f mode (HasExit t)) n × (after ≡ before + n)
