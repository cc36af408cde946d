-- What a pass has seen of the methods of some facts.
use Rattle.std.specs.Prelude.{◌≡◌}
use Rattle.slicer_ids.specs.declared.ids.MethodId.{MethodId}
use Rattle.dep_form.specs.declared.facts.Facts.{Facts}
use Rattle.dep_form.specs.declared.graph.Graph.{Graph}
use Rattle.graph_store.specs.Store.{IsPassOf, HasInputsOf, HasSeen}
use Rattle.session_walk.specs.declared.seen.PassView.{PassView}

abbrev pub facts_of_view : PassView → Facts
facts_of_view v = v.facts.now

-- the pass has seen the graph of the method
abbrev pub HasSeenMethod : PassView → MethodId → Type 0
HasSeenMethod v m = (g : Graph) × HasSeen v.facts.now v.pass.now m g

-- the pass is one of the store's, and what it has seen has the inputs of the facts
pub record IsSound (v : PassView) : Type 0 where
  pub pass : IsPassOf v.store.now.cells.items v.pass.now
  pub inputs : HasInputsOf v.facts.now v.pass.now
