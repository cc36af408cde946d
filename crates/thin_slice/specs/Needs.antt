-- What a walk needs at a node.
use Rattle.std.specs.Prelude.{◌≡◌, ◌⊎◌, Bool, true, false, List, Contains}
use Rattle.slicer_ids.specs.declared.ids.NodeId.{NodeId}
use Rattle.slicer_ids.specs.declared.ids.MethodId.{MethodId}
use Rattle.slicer_ids.specs.declared.ids.ExitId.{ExitId}
use Rattle.slicer_ids.specs.declared.ids.CallId.{CallId}
use Rattle.dep_form.specs.declared.node.Edge.{Edge}
use Rattle.dep_form.specs.declared.node.Label.{Label}
use Rattle.dep_form.specs.declared.node.Label.TheVariants.{Return}
use Rattle.dep_form.specs.declared.facts.Facts.{Facts}
use Rattle.dep_form.specs.LookUps.{IsMethodOfNode}
use Rattle.dep_form.specs.Summaries.{IsExitAt}
use Rattle.thin_slice.specs.declared.needs.Go.{Go}
use Rattle.thin_slice.specs.declared.needs.Go.TheVariants.{Finished, NeedsGraph, NeedsRow}
use Rattle.worklists.specs.Growth.{Grows}
use Rattle.thin_slice.specs.Steps.{Leaves, StepsDown}

-- it names a graph or a row
abbrev pub is_need : Go → Bool
is_need Finished = false
is_need (NeedsGraph m) = true
is_need (NeedsRow e) = true

abbrev pub IsReturn : Label → Type 0
IsReturn l = (c : CallId) × (l ≡ Return c)

-- the graph of the node's method was seen and, where the node is an exit's, the row is known
pub record IsServed (f : Facts) (Seen : MethodId → Type 0) (Known : ExitId → Type 0) (n : NodeId) : Type 0 where
  pub graph : (m : MethodId) → IsMethodOfNode f.inputs n m → Seen m
  pub row : (e : ExitId) → IsExitAt f e n → Known e

-- .. where the edge starts, if it is a return
abbrev pub IsServedEdge : Facts → (MethodId → Type 0) → (ExitId → Type 0) → Edge → Type 0
IsServedEdge f Seen Known e = IsReturn e.label → IsServed f Seen Known e.from

-- what is missing at the node, if anything
abbrev pub IsNeedAt : Facts → (MethodId → Type 0) → (ExitId → Type 0) → NodeId → Go → Type 0
IsNeedAt f Seen Known n Finished = IsServed f Seen Known n
IsNeedAt f Seen Known n (NeedsGraph m) = IsMethodOfNode f.inputs n m × (Seen m → ⊥)
IsNeedAt f Seen Known n (NeedsRow e) = IsExitAt f e n × (Known e → ⊥)

-- .. where a return edge starts
abbrev pub IsNeedOfEdge : Facts → (MethodId → Type 0) → (ExitId → Type 0) → Edge → Go → Type 0
IsNeedOfEdge f Seen Known e Finished = IsServedEdge f Seen Known e
IsNeedOfEdge f Seen Known e (NeedsGraph m) = IsReturn e.label × IsNeedAt f Seen Known e.from (NeedsGraph m)
IsNeedOfEdge f Seen Known e (NeedsRow x) = IsReturn e.label × IsNeedAt f Seen Known e.from (NeedsRow x)

-- .. where one of the return edges of a list starts
abbrev pub IsNeedIn : Facts → (MethodId → Type 0) → (ExitId → Type 0) → List Edge → Go → Type 0
IsNeedIn f Seen Known es Finished = (e : Edge) → Contains es e → IsServedEdge f Seen Known e
IsNeedIn f Seen Known es (NeedsGraph m) = (e : Edge) × Contains es e × IsNeedOfEdge f Seen Known e (NeedsGraph m)
IsNeedIn f Seen Known es (NeedsRow x) = (e : Edge) × Contains es e × IsNeedOfEdge f Seen Known e (NeedsRow x)

-- the node itself, or an exit that returns to it
abbrev pub IsMetAt : (Edge → Type 0) → NodeId → NodeId → Type 0
IsMetAt E n x = (x ≡ n) ⊎ Leaves E n x

-- what a step back from a node did: all, or nothing where something is missing at the node or at an exit that returns to it
abbrev pub IsStep : Facts → (MethodId → Type 0) → (ExitId → Type 0) → (Edge → Type 0) → (NodeId → Type 0) → NodeId → Go → List NodeId → List NodeId → Type 0
IsStep f Seen Known E P n Finished old new = IsServed f Seen Known n × Grows old new P
IsStep f Seen Known E P n (NeedsGraph m) old new = (new ≡ old) × (x : NodeId) × IsMetAt E n x × IsNeedAt f Seen Known x (NeedsGraph m)
IsStep f Seen Known E P n (NeedsRow e) old new = (new ≡ old) × (x : NodeId) × IsMetAt E n x × IsNeedAt f Seen Known x (NeedsRow e)

-- the same of a step down; a node of the first phase was served there
abbrev pub IsStepDown : Facts → (MethodId → Type 0) → (ExitId → Type 0) → (Edge → Type 0) → Bool → NodeId → Go → List NodeId → List NodeId → Type 0
IsStepDown f Seen Known E first n Finished old new = (first ≡ false → IsServed f Seen Known n) × Grows old new (StepsDown E first n)
IsStepDown f Seen Known E first n (NeedsGraph m) old new = (new ≡ old) × (x : NodeId) × IsMetAt E n x × IsNeedAt f Seen Known x (NeedsGraph m)
IsStepDown f Seen Known E first n (NeedsRow e) old new = (new ≡ old) × (x : NodeId) × IsMetAt E n x × IsNeedAt f Seen Known x (NeedsRow e)
