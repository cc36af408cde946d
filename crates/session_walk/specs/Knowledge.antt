-- What a session has seen and knows.
use Rattle.std.specs.Prelude.{◌<◌, length}
use Rattle.slicer_ids.specs.declared.ids.MethodId.{MethodId}
use Rattle.slicer_ids.specs.declared.ids.NodeId.{NodeId}
use Rattle.slicer_ids.specs.declared.ids.ExitId.{ExitId}
use Rattle.slicer_ids.specs.declared.ids.Mode.{Mode}
use Rattle.dep_form.specs.declared.facts.Facts.{Facts}
use Rattle.dep_form.specs.declared.graph.Graph.{Graph}
use Rattle.dep_form.specs.Graphs.{HasInput}
use Rattle.dep_form.specs.Summaries.{ExitsIn}
use Rattle.graph_store.specs.declared.pass.GraphPass.{GraphPass}
use Rattle.graph_store.specs.Store.{HasSeen}
use Rattle.summary_memo.specs.declared.view.View.{View}
use Rattle.summary_memo.specs.Rule.{KnowsShut}
use Rattle.thin_slice.specs.declared.needs.Go.{Go}
use Rattle.thin_slice.specs.declared.needs.Go.TheVariants.{Finished, NeedsGraph, NeedsRow}

-- the pass has seen the graph of the method
abbrev pub Sees : Facts → GraphPass → MethodId → Type 0
Sees f p m = (g : Graph) × HasSeen f p m g

-- the seat knows the row shut
abbrev pub KnowsRows : Facts → Mode → View → ExitId → Type 0
KnowsRows f mode v e = KnowsShut v f e mode

-- .. that of each exit whose node is in a set
abbrev pub HasRows : Facts → Mode → (NodeId → Type 0) → View → Type 0
HasRows f mode P v = (e : ExitId) → ExitsIn f P e → KnowsRows f mode v e

-- what is named is no row
abbrev pub IsNoRow : Go → Type 0
IsNoRow Finished = Unit {0}
IsNoRow (NeedsGraph m) = Unit {0}
IsNoRow (NeedsRow e) = ⊥

-- what is named is the graph of a method with an input, or the row of an exit
abbrev pub IsNamed : Facts → Go → Type 0
IsNamed f Finished = Unit {0}
IsNamed f (NeedsGraph m) = HasInput f.inputs m
IsNamed f (NeedsRow e) = e.0 < length f.exits
