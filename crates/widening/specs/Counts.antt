-- How many pairs were taken up.
use Rattle.std.specs.Prelude.{◌≡◌, ◌≤◌, ◌+◌, ℕ, List, Contains}
use Rattle.bit_rows.specs.Adds.{Taken}
use Rattle.slicer_ids.specs.declared.ids.NodeId.{NodeId}
use Rattle.slicer_ids.specs.declared.ids.Statement.{Statement}
use Rattle.dep_form.specs.declared.facts.Facts.{Facts}
use Rattle.dep_form.specs.Summaries.{HasSize, PathEdges, Needed}
use Rattle.widening.specs.declared.pairs.Pairs.{Pairs}
use Rattle.widening.specs.Pairs.{Has, Waits}

-- so many pairs were taken up
abbrev pub IsCount : Facts → Pairs → ℕ → Type 0
IsCount f p n = HasSize (Taken (Has f p) (Waits f p)) n

-- there are so many path edges of the exits that the slice needs
abbrev pub IsSize : Facts → (Statement → Type 0) → List NodeId → ℕ → Type 0
IsSize f X seeds n = HasSize (PathEdges f X (Needed f X (Contains seeds))) n

-- a turn was taken for each pair that was taken up
abbrev pub AreTurns : Facts → Pairs → Pairs → ℕ → ℕ → Type 0
AreTurns f p p' steps steps' = (n : ℕ) → IsCount f p n → (m : ℕ) × IsCount f p' m × (steps' + n ≡ steps + m)

-- no more turns were taken than up to the size
abbrev pub AreWithin : Facts → (Statement → Type 0) → List NodeId → Pairs → ℕ → ℕ → Type 0
AreWithin f X seeds p steps steps' = (n m : ℕ) → IsCount f p n → IsSize f X seeds m → steps' + n ≤ steps + m

-- no pair was found
abbrev pub HasNoPairs : Facts → Pairs → Type 0
HasNoPairs f p = (q : ℕ × ℕ) → Has f p q → ⊥
