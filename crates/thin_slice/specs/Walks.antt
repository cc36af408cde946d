-- How far a walk came.
use Rattle.std.specs.Prelude.{◌≡◌, ◌⊎◌, ◌≤◌, ℕ, List, length, take, Contains}
use Rattle.slicer_ids.specs.declared.ids.NodeId.{NodeId}
use Rattle.slicer_ids.specs.declared.ids.MethodId.{MethodId}
use Rattle.slicer_ids.specs.declared.ids.ExitId.{ExitId}
use Rattle.slicer_ids.specs.declared.ids.Mode.{Mode}
use Rattle.dep_form.specs.declared.node.Edge.{Edge}
use Rattle.dep_form.specs.declared.facts.Facts.{Facts}
use Rattle.dep_form.specs.Paths.{IsInSlice}
use Rattle.dep_form.specs.Phases.{Down as GoesDown, GoesUpThenDown}
use Rattle.dep_form.specs.Slices.{ModeEdges, MethodsOf}
use Rattle.dep_form.specs.Summaries.{ExitsIn}
use Rattle.thin_slice.specs.declared.needs.Go.{Go}
use Rattle.thin_slice.specs.declared.needs.Go.TheVariants.{Finished, NeedsGraph, NeedsRow}
use Rattle.thin_slice.specs.declared.needs.Phase.{Phase}
use Rattle.thin_slice.specs.declared.needs.Phase.TheVariants.{Up, Down}
use Rattle.thin_slice.specs.declared.walk.Walk.{Walk}
use Rattle.thin_slice.specs.Marks.{AreNodesOf, found}
use Rattle.thin_slice.specs.Steps.{GoesBack}
use Rattle.thin_slice.specs.Needs.{IsServed, IsMetAt, IsNeedAt}

-- n leads to one of the seeds: into methods alone, and first back to callers
abbrev pub LeadsDown : (Edge → Type 0) → List NodeId → NodeId → Type 0
LeadsDown E seeds n = (s : NodeId) × Contains seeds s × GoesDown E n s

abbrev pub LeadsOn : (Edge → Type 0) → List NodeId → NodeId → Type 0
LeadsOn E seeds n = (s : NodeId) × Contains seeds s × GoesUpThenDown E n s

-- all nodes lead to a seed as the phase allows, and each step back from the first `next` was taken
pub record IsPhase (Good : NodeId → Type 0) (E : Edge → Type 0) (phase : Phase) (next : ℕ) (nodes : List NodeId) : Type 0 where
  pub each : (n : NodeId) → Contains nodes n → Good n
  pub steps : (n q : NodeId) → Contains (take next nodes) n → GoesBack E phase n q → Contains nodes q
  pub within : next ≤ length nodes

-- the first phase: the seeds, and what calls lead from
pub record IsUp (E : Edge → Type 0) (seeds : List NodeId) (next : ℕ) (nodes : List NodeId) : Type 0 where
  pub there : (s : NodeId) → Contains seeds s → Contains nodes s
  pub up : IsPhase (LeadsDown E seeds) E Up next nodes

-- the second phase: the first `ups` are the whole first phase
pub record IsDown (E : Edge → Type 0) (seeds : List NodeId) (ups next : ℕ) (nodes : List NodeId) : Type 0 where
  pub first : IsUp E seeds ups (take ups nodes)
  pub down : IsPhase (LeadsOn E seeds) E Down next nodes
  pub within : ups ≤ length nodes

-- the nodes found, and the seeds, which were found first
abbrev pub nodes_of : Walk → List NodeId
nodes_of w = found w.nodes

abbrev pub seeds_of : Walk → List NodeId
seeds_of w = take w.seeds (nodes_of w)

abbrev pub IsAt : (Edge → Type 0) → List NodeId → Phase → ℕ → ℕ → List NodeId → Type 0
IsAt E seeds Up ups next nodes = IsUp E seeds next nodes
IsAt E seeds Down ups next nodes = IsDown E seeds ups next nodes

-- it is a walk of the facts
pub record IsWalkOf (f : Facts) (w : Walk) : Type 0 where
  pub nodes : AreNodesOf f w.nodes
  pub seeds : w.seeds ≤ length (nodes_of w)

-- it goes on from its seeds in this mode: all that it found so far is of the slice
pub record IsWalking (f : Facts) (mode : Mode) (w : Walk) : Type 0 where
  pub of : IsWalkOf f w
  pub at : IsAt (ModeEdges f.inputs mode) (seeds_of w) w.phase w.ups w.next (nodes_of w)

-- all steps back from the node were taken, in the first phase or in the second
abbrev pub IsTaken : Phase → ℕ → ℕ → List NodeId → NodeId → Type 0
IsTaken Up ups next nodes n = Contains (take next nodes) n
IsTaken Down ups next nodes n = Contains (take ups nodes) n ⊎ Contains (take next nodes) n

-- at each node from which all steps were taken nothing is missing
abbrev pub AreServed : Facts → (MethodId → Type 0) → (ExitId → Type 0) → Walk → Type 0
AreServed f Seen Known w = (n : NodeId) → IsTaken w.phase w.ups w.next (nodes_of w) n → IsServed f Seen Known n

-- what was named was fetched
abbrev pub IsFetched : (MethodId → Type 0) → (ExitId → Type 0) → Go → Type 0
IsFetched Seen Known Finished = Unit {0}
IsFetched Seen Known (NeedsGraph m) = Seen m
IsFetched Seen Known (NeedsRow e) = Known e

-- nothing was taken up or named since the start
abbrev pub IsFresh : Walk → Type 0
IsFresh w = (w.phase ≡ Up) × (w.next ≡ 0) × (w.last ≡ Finished)

-- the slice of the seeds in a mode: thin with no access expanded, or full
abbrev pub ModeSlice : Facts → Mode → List NodeId → NodeId → Type 0
ModeSlice f mode seeds = IsInSlice (ModeEdges f.inputs mode) (Contains seeds)

-- what is named is needed, and wasn't seen or isn't known
abbrev pub IsCause : Facts → Mode → List NodeId → (MethodId → Type 0) → (ExitId → Type 0) → Go → Type 0
IsCause f mode seeds Seen Known Finished = Unit {0}
IsCause f mode seeds Seen Known (NeedsGraph m) = MethodsOf f.inputs (ModeSlice f mode seeds) m × (Seen m → ⊥)
IsCause f mode seeds Seen Known (NeedsRow e) = ExitsIn f (ModeSlice f mode seeds) e × (Known e → ⊥)

abbrev pub WhenFinished : Go → Type 0 → Type 0
WhenFinished Finished P = P
WhenFinished (NeedsGraph m) P = Unit {0}
WhenFinished (NeedsRow e) P = Unit {0}

-- all graphs and rows that the slice needs were fetched
pub record IsAllFetched (f : Facts) (mode : Mode) (seeds : List NodeId) (Seen : MethodId → Type 0) (Known : ExitId → Type 0) : Type 0 where
  pub graphs : (m : MethodId) → MethodsOf f.inputs (ModeSlice f mode seeds) m → Seen m
  pub rows : (e : ExitId) → ExitsIn f (ModeSlice f mode seeds) e → Known e

-- why a phase stops: all was taken up, or something is missing at a node or at an exit that returns to it
abbrev pub IsStop : Facts → (MethodId → Type 0) → (ExitId → Type 0) → (Edge → Type 0) → Go → ℕ → List NodeId → Type 0
IsStop f Seen Known E Finished next nodes = length nodes ≤ next
IsStop f Seen Known E (NeedsGraph m) next nodes = (n : NodeId) × (x : NodeId) × Contains nodes n × IsMetAt E n x × IsNeedAt f Seen Known x (NeedsGraph m)
IsStop f Seen Known E (NeedsRow e) next nodes = (n : NodeId) × (x : NodeId) × Contains nodes n × IsMetAt E n x × IsNeedAt f Seen Known x (NeedsRow e)
