-- What a slice needs of the shared graphs and rows.
use Rattle.slicer_ids.specs.declared.ids.NodeId.{NodeId}
use Rattle.slicer_ids.specs.declared.ids.MethodId.{MethodId}
use Rattle.slicer_ids.specs.declared.ids.ExitId.{ExitId}
use Rattle.slicer_ids.specs.declared.ids.Mode.{Mode}
use Rattle.dep_form.specs.declared.facts.Facts.{Facts}
use Rattle.dep_form.specs.Paths.{IsInSlice}
use Rattle.dep_form.specs.Slices.{ModeEdges, MethodsOf}
use Rattle.dep_form.specs.Summaries.{ExitsIn}
use Rattle.graph_store.specs.declared.pass.GraphPass.{GraphPass}
use Rattle.summary_memo.specs.declared.view.View.{View}
use Rattle.session_walk.specs.Knowledge.{Sees, KnowsRows}

-- the slice of a set of nodes in a mode: thin with no access expanded, or full
abbrev pub SliceOf : Facts → Mode → (NodeId → Type 0) → NodeId → Type 0
SliceOf f mode seeds = IsInSlice (ModeEdges f.inputs mode) seeds

-- the pass has seen the method of each node of the set, and the seat knows the row of each exit in it
pub record HasNeeded (f : Facts) (mode : Mode) (P : NodeId → Type 0) (p : GraphPass) (v : View) : Type 0 where
  pub graphs : (m : MethodId) → MethodsOf f.inputs P m → Sees f p m
  pub rows : (e : ExitId) → ExitsIn f P e → KnowsRows f mode v e
