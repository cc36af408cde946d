-- How many turns a slice takes.
use Rattle.std.specs.Prelude.{◌≡◌, ◌+◌, ℕ, List, Contains, Option, Some, None}
use Rattle.slicer_ids.specs.declared.ids.NodeId.{NodeId}
use Rattle.slicer_ids.specs.declared.ids.Statement.{Statement}
use Rattle.dep_form.specs.declared.facts.Facts.{Facts}
use Rattle.dep_form.specs.Summaries.{HasSize, PathEdges, Needed}

-- so many path edges have the exits that the slice needs
abbrev pub IsSizeOf : Facts → (Statement → Type 0) → (NodeId → Type 0) → ℕ → Type 0
IsSizeOf f X S n = HasSize (PathEdges f X (Needed f X S)) n

-- a turn was taken for each path edge of the exits that the slice needs, but for those that the slice that was kept needed
abbrev pub TakesTurns : Facts → (Statement → Type 0) → (NodeId → Type 0) → Option (List Statement) → ℕ → ℕ → Type 0
TakesTurns f X S None steps steps' = (m : ℕ) × IsSizeOf f X S m × (steps' ≡ steps + m)
TakesTurns f X S (Some before) steps steps' =
    (n : ℕ) × (m : ℕ) × IsSizeOf f (Contains before) S n × IsSizeOf f X S m × (steps' + n ≡ steps + m)
