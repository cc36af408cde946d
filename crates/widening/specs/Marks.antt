-- The nodes that were marked in a phase, and what was taken from them.
use Rattle.std.specs.Prelude.{◌≡◌, ◌⊎◌, ◌<◌, ◌≤◌, ◌++◌, ℕ, List, length, take, Contains, Option}
use Rattle.slicer_ids.specs.declared.ids.NodeId.{NodeId}
use Rattle.slicer_ids.specs.declared.ids.CallId.{CallId}
use Rattle.slicer_ids.specs.declared.ids.ExitId.{ExitId}
use Rattle.dep_form.specs.declared.facts.Facts.{Facts}
use Rattle.dep_form.specs.declared.node.Edge.{Edge}
use Rattle.dep_form.specs.declared.node.Label.TheVariants.{Call, Return}
use Rattle.dep_form.specs.Inputs.{IsEdge}
use Rattle.dep_form.specs.Phases.{edge}
use Rattle.dep_form.specs.Summaries.{IsExitAt}
use Rattle.tabulate.specs.declared.found.Found.{Found}
use Rattle.tabulate.specs.declared.method.Argument.{Argument}
use Rattle.tabulate.specs.declared.method.Back.{Back}
use Rattle.tabulate.specs.declared.method.Method.{Method}
use Rattle.tabulate.specs.Frames.{method_of, number_of}
use Rattle.tabulate.specs.Methods.{IsMet, IsMetAs}
use Rattle.tabulate.specs.Found.{Got}
use Rattle.worklists.specs.Growth.{FromOne}
use Rattle.thin_slice.specs.declared.needs.Phase.{Phase}
use Rattle.thin_slice.specs.declared.needs.Phase.TheVariants.{Up, Down}
use Rattle.thin_slice.specs.Steps.{Moves, Passes, GoesBack}
use Rattle.thin_slice.specs.Walks.{LeadsDown, LeadsOn}

-- a node of the phase leads to a seed: into methods alone, or first back to callers
abbrev pub Leads : (Edge → Type 0) → List NodeId → Phase → NodeId → Type 0
Leads E seeds Up n = LeadsDown E seeds n
Leads E seeds Down n = LeadsOn E seeds n

-- the node's method was met; the exits that return to it were asked for, and the one whose node it is
pub record IsAsked (f : Facts) (E : Edge → Type 0) (ms : List (Option Method)) (asked : List ExitId) (n : NodeId) : Type 0 where
  pub met : IsMet ms (method_of f n.0)
  pub returns : (e : NodeId) (d : ExitId) (k : CallId) → E (edge e (Return k) n) → IsExitAt f d e → Contains asked d
  pub own : (d : ExitId) → IsExitAt f d n → Contains asked d

-- the nodes lead to a seed, and what steps back from the first `next` lead to is there
pub record IsMarking (f : Facts) (E : Edge → Type 0) (phase : Phase) (ms : List (Option Method)) (asked : List ExitId) (next : ℕ) (nodes : List NodeId) : Type 0 where
  pub moves : (n q : NodeId) → Contains (take next nodes) n → Moves E phase n q → Contains nodes q
  pub passes : (n q : NodeId) → Contains (take next nodes) n → Passes E n q → Contains nodes q
  pub served : (n : NodeId) → Contains (take next nodes) n → IsAsked f E ms asked n
  pub within : next ≤ length nodes

-- each node of the phase leads to a seed
abbrev pub AreLeading : (Edge → Type 0) → List NodeId → Phase → List NodeId → Type 0
AreLeading E seeds phase nodes = (n : NodeId) → Contains nodes n → Leads E seeds phase n

-- to an argument whose formal leads to the exit of the number
abbrev pub PassesTo : Facts → List Found → ℕ → Argument → NodeId → Type 0
PassesTo f ts number a q = Got f ts (a.formal.0, number) × (q ≡ a.from)

-- over a call to an argument whose formal leads to the exit
abbrev pub OverCall : Facts → List Found → ExitId → CallId → NodeId → Type 0
OverCall f ts d k q =
    (x : NodeId) × (b : NodeId) × IsExitAt f d x × IsEdge f.inputs (edge q (Call k) b) × (method_of f b.0 ≡ method_of f x.0) × Got f ts (b.0, number_of f x.0)

-- over the call whose return the edge is
abbrev pub OverEdge : Facts → List Found → Edge → NodeId → Type 0
OverEdge f ts e q = (d : ExitId) × (k : CallId) × IsExitAt f d e.from × (e.label ≡ Return k) × OverCall f ts d k q

-- over the call of a return to a marked node
abbrev pub OverBack : Facts → List Found → List NodeId → Back → NodeId → Type 0
OverBack f ts nodes b q = Contains nodes b.to × OverCall f ts b.exit b.call q

-- .. of one of the method's returns
abbrev pub OverMethod : Facts → List (Option Method) → List Found → List NodeId → ℕ → NodeId → Type 0
OverMethod f ms ts nodes m q = (x : Method) × IsMetAs ms m x × FromOne (OverBack f ts nodes) x.returns.items q

-- .. of one of the methods
abbrev pub IsOver : Facts → List (Option Method) → List Found → List NodeId → NodeId → Type 0
IsOver f ms ts nodes q = (m : ℕ) × (m < length ms) × OverMethod f ms ts nodes m q

-- what steps back from the first `taken` nodes lead to is there, but for those back from some nodes; over calls nothing is known
pub record IsBegun (f : Facts) (E : Edge → Type 0) (phase : Phase) (again : List NodeId) (ms : List (Option Method)) (asked : List ExitId) (taken : ℕ) (nodes : List NodeId) : Type 0 where
  pub moves : (n q : NodeId) → Contains (take taken nodes) n → Moves E phase n q → Contains nodes q ⊎ Contains again n
  pub served : (n : NodeId) → Contains (take taken nodes) n → IsAsked f E ms asked n
  pub within : taken ≤ length nodes

-- steps back from those of some nodes that are marked lead to what is there
pub record AreStepped (E : Edge → Type 0) (phase : Phase) (again : List NodeId) (nodes nodes' : List NodeId) : Type 0 where
  pub front : (more : List NodeId) × (nodes' ≡ nodes ++ more)
  pub steps : (n q : NodeId) → Contains again n → Contains nodes n → GoesBack E phase n q → Contains nodes' q
