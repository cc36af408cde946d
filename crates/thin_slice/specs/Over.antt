-- Back over a call by the row of an exit.
use Rattle.std.specs.Prelude.{◌≡◌, ◌<◌, ◌≤◌, ◌+◌, ◌*◌, ℕ, List, Option}
use Rattle.std.specs.Int.{bit_at}
use Rattle.slicer_ids.specs.declared.ids.NodeId.{NodeId}
use Rattle.slicer_ids.specs.declared.ids.MethodId.{MethodId}
use Rattle.slicer_ids.specs.declared.ids.CallId.{CallId}
use Rattle.slicer_ids.specs.declared.ids.ExitId.{ExitId}
use Rattle.slicer_ids.specs.declared.ids.Mode.{Mode}
use Rattle.dep_form.specs.declared.node.Label.TheVariants.{Call}
use Rattle.dep_form.specs.declared.input.MethodInput.{MethodInput}
use Rattle.dep_form.specs.declared.graph.Graph.{Graph}
use Rattle.dep_form.specs.declared.facts.Facts.{Facts}
use Rattle.dep_form.specs.Graphs.{IsGraphIn}
use Rattle.dep_form.specs.Inputs.{IsEdge}
use Rattle.dep_form.specs.LookUps.{HasFormals, IsMethodOfNode}
use Rattle.dep_form.specs.Phases.{edge}
use Rattle.dep_form.specs.Summaries.{IsExitAt, Summary}
use Rattle.thin_slice.specs.declared.over.Caller.{Caller}

-- the node of this number among those of the graph
abbrev pub node_at : Graph → ℕ → NodeId
node_at g k = record { 0 = g.first.0 + k }

-- an edge of the call leads from q to the node
abbrev pub CallsInto : List (Option MethodInput) → CallId → NodeId → NodeId → Type 0
CallsInto inputs c n q = IsEdge inputs (edge q (Call c) n)

-- each edge of the call starts in one of these nodes
abbrev pub AreCallers : Facts → Caller → Type 0
AreCallers f c = (c.first ≤ c.end) × ((q b : NodeId) → IsEdge f.inputs (edge q (Call c.call) b) → (c.first ≤ q.0) × (q.0 < c.end))

-- the graph is that of a method with so many formals
abbrev pub IsCallee : Facts → Graph → ℕ → Type 0
IsCallee f g formals = (m : MethodId) × IsGraphIn f.inputs m g × HasFormals f m formals

-- .. and of the node of the exit
abbrev pub IsCalleeAt : Facts → Graph → ℕ → ExitId → Type 0
IsCalleeAt f g formals e =
    (m : MethodId) × (x : NodeId) × IsExitAt f e x × IsMethodOfNode f.inputs x m × IsGraphIn f.inputs m g × HasFormals f m formals

-- an edge of the call leads from q to the formal of bit b of word k, where it is set
abbrev pub ByBit : Facts → CallId → Graph → ℕ → ℕ → ℕ → ℕ → NodeId → Type 0
ByBit f c g formals k word b q = (bit_at word b ≡ 1) × (64 * k + b < formals) × CallsInto f.inputs c (node_at g (64 * k + b)) q

-- .. of some bit of word k
abbrev pub ByWord : Facts → CallId → Graph → ℕ → ℕ → ℕ → NodeId → Type 0
ByWord f c g formals k word q = (b : ℕ) × (b < 64) × ByBit f c g formals k word b q

-- .. of a formal of word k in the summary
abbrev pub ByPart : Facts → Mode → ExitId → CallId → Graph → ℕ → ℕ → NodeId → Type 0
ByPart f mode e c g formals k q =
    (b : ℕ) × (b < 64) × Summary f mode e (64 * k + b) × (64 * k + b < formals) × CallsInto f.inputs c (node_at g (64 * k + b)) q

-- .. of a formal in the summary
abbrev pub ByRow : Facts → Mode → ExitId → CallId → Graph → ℕ → NodeId → Type 0
ByRow f mode e c g formals q = (j : ℕ) × (j < formals) × Summary f mode e j × CallsInto f.inputs c (node_at g j) q
