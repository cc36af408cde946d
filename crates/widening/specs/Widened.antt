-- What a widened slice is.
use Rattle.std.specs.Prelude.{◌≡◌, ◌≤◌, ◌+◌, ℕ, List, [], Contains}
use Rattle.slicer_ids.specs.declared.ids.NodeId.{NodeId}
use Rattle.slicer_ids.specs.declared.ids.Statement.{Statement}
use Rattle.dep_form.specs.declared.facts.Facts.{Facts}
use Rattle.widening.specs.declared.wide.Wide.{Wide}
use Rattle.widening.specs.States.{IsSliced}
use Rattle.widening.specs.Counts.{IsSize}

-- the seeds, and the accesses whose bases are in
abbrev pub seeds_of : Wide → List NodeId
seeds_of w = w.seeds.items

abbrev pub expansions_of : Wide → List Statement
expansions_of w = w.state.expansions.accesses.items

-- it is the slice of its seeds with its accesses expanded
abbrev pub IsWide : Facts → Wide → Type 0
IsWide f w = IsSliced f (seeds_of w) w.methods.items w.state

-- each path edge of the exits that a slice needs, with these accesses expanded, took a turn, but for those that it needed with
-- fewer accesses expanded
abbrev pub AreTurned : Facts → List NodeId → List Statement → List Statement → ℕ → ℕ → Type 0
AreTurned f seeds before after steps steps' =
    (n : ℕ) × (m : ℕ) × IsSize f (Contains before) seeds n × IsSize f (Contains after) seeds m × (steps' + n ≡ steps + m)

-- no more turns were taken than that
abbrev pub AreAtMost : Facts → List NodeId → List Statement → List Statement → ℕ → ℕ → Type 0
AreAtMost f seeds before after steps steps' =
    (n m : ℕ) → IsSize f (Contains before) seeds n → IsSize f (Contains after) seeds m → steps' + n ≤ steps + m

-- each path edge of the exits that a slice needs with no access expanded took a turn
abbrev pub AreFirstTurns : Facts → List NodeId → ℕ → ℕ → Type 0
AreFirstTurns f seeds steps steps' = (m : ℕ) × IsSize f (Contains []) seeds m × (steps' ≡ steps + m)

abbrev pub AreAtMostFirst : Facts → List NodeId → ℕ → ℕ → Type 0
AreAtMostFirst f seeds steps steps' = (m : ℕ) → IsSize f (Contains []) seeds m → steps' ≤ steps + m
