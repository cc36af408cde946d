-- The steps of a walk back, in a phase that goes up to callers and one that goes down into methods.
use Rattle.std.specs.Prelude.{◌≡◌, ◌⊎◌, ◌↔◌, ◌<◌, ◌≤◌, ℕ, Bool, true, false, not, List, Option, Some, Contains, slice_get}
use Rattle.slicer_ids.specs.declared.ids.NodeId.{NodeId}
use Rattle.slicer_ids.specs.declared.ids.CallId.{CallId}
use Rattle.slicer_ids.specs.declared.ids.Mode.{Mode}
use Rattle.slicer_ids.specs.declared.ids.Mode.TheVariants.{Thin as Producers, Full}
use Rattle.dep_form.specs.declared.node.Edge.{Edge}
use Rattle.dep_form.specs.declared.node.Label.{Label}
use Rattle.dep_form.specs.declared.node.Label.TheVariants.{Thin, Base, Call, Return}
use Rattle.dep_form.specs.declared.input.MethodInput.{MethodInput}
use Rattle.dep_form.specs.Inputs.{IsEdge}
use Rattle.dep_form.specs.Phases.{edge, Level}
use Rattle.thin_slice.specs.declared.needs.Phase.{Phase}
use Rattle.thin_slice.specs.declared.needs.Phase.TheVariants.{Up, Down}

-- back along an edge within a method
abbrev pub Flows : (Edge → Type 0) → NodeId → NodeId → Type 0
Flows E n q = E (edge q Thin n) ⊎ E (edge q Base n)

-- .. along the edge of a call, up to the caller
abbrev pub Enters : (Edge → Type 0) → NodeId → NodeId → Type 0
Enters E n q = (c : CallId) × E (edge q (Call c) n)

-- .. along the edge of a return, down into the method called
abbrev pub Leaves : (Edge → Type 0) → NodeId → NodeId → Type 0
Leaves E n q = (c : CallId) × E (edge q (Return c) n)

-- .. over a whole call, from the exit x of the method called to an argument of that call
abbrev pub PassesBy : (Edge → Type 0) → CallId → NodeId → NodeId → Type 0
PassesBy E c x q = (b : NodeId) × E (edge q (Call c) b) × Level E b x

abbrev pub Passes : (Edge → Type 0) → NodeId → NodeId → Type 0
Passes E n q = (c : CallId) × (x : NodeId) × E (edge x (Return c) n) × PassesBy E c x q

-- .. along one edge, as the phase allows
abbrev pub Moves : (Edge → Type 0) → Phase → NodeId → NodeId → Type 0
Moves E Up n q = Flows E n q ⊎ Enters E n q
Moves E Down n q = Flows E n q ⊎ Leaves E n q

-- a step back in a phase
abbrev pub GoesBack : (Edge → Type 0) → Phase → NodeId → NodeId → Type 0
GoesBack E phase n q = Moves E phase n q ⊎ Passes E n q

-- the edges that end in a node
abbrev pub AreInto : List (Option MethodInput) → NodeId → List Edge → Type 0
AreInto inputs n es = (e : Edge) → Contains es e ↔ (IsEdge inputs e × (e.to ≡ n))

abbrev pub is_full : Mode → Bool
is_full Producers = false
is_full Full = true

abbrev pub is_up : Phase → Bool
is_up Up = true
is_up Down = false

-- a label that a phase goes back along
abbrev pub may_follow : Mode → Phase → Label → Bool
may_follow mode phase Thin = true
may_follow mode phase Base = is_full mode
may_follow mode phase (Call c) = is_up phase
may_follow mode phase (Return c) = not (is_up phase)

-- to the start of an edge that the phase goes back along
abbrev pub FollowsOne : Mode → Phase → Edge → NodeId → Type 0
FollowsOne mode phase e q = (may_follow mode phase e.label ≡ true) × (q ≡ e.from)

-- to the start of an edge of the call
abbrev pub StartsCall : CallId → Edge → NodeId → Type 0
StartsCall c e q = (e.label ≡ Call c) × (q ≡ e.from)

-- .. at a place from `low` on
abbrev pub StartsFrom : CallId → ℕ → List Edge → ℕ → NodeId → Type 0
StartsFrom c low es k q = (low ≤ k) × (e : Edge) × (slice_get es k ≡ Some e) × StartsCall c e q

-- .. and before `high`
abbrev pub StartsBefore : CallId → ℕ → List Edge → ℕ → NodeId → Type 0
StartsBefore c low es high q = (k : ℕ) × (k < high) × StartsFrom c low es k q

-- over the call whose return the edge is
abbrev pub PassesOver : (Edge → Type 0) → Edge → NodeId → Type 0
PassesOver E e q = (c : CallId) × (e.label ≡ Return c) × PassesBy E c e.from q

-- a step down from a node; from one of the first phase none over a whole call is left
abbrev pub StepsDown : (Edge → Type 0) → Bool → NodeId → NodeId → Type 0
StepsDown E true n q = Moves E Down n q
StepsDown E false n q = GoesBack E Down n q
