-- The edges that a widened slice follows.
use Rattle.std.specs.Prelude.{◌≡◌, ◌↔◌, ◌⊎◌, ◌<◌, ◌+◌, ℕ, Bool, true, false, List, length, Contains, slice_index_or}
use Rattle.slicer_ids.specs.declared.ids.NodeId.{NodeId}
use Rattle.slicer_ids.specs.declared.ids.CallId.{CallId}
use Rattle.slicer_ids.specs.declared.ids.ExitId.{ExitId}
use Rattle.slicer_ids.specs.declared.ids.Statement.{Statement}
use Rattle.dep_form.specs.declared.facts.Facts.{Facts}
use Rattle.dep_form.specs.declared.node.Edge.{Edge}
use Rattle.dep_form.specs.declared.node.Label.{Label}
use Rattle.dep_form.specs.declared.node.Label.TheVariants.{Thin, Base, Call, Return}
use Rattle.dep_form.specs.Inputs.{IsEdge, BelongsTo}
use Rattle.dep_form.specs.Phases.{edge}
use Rattle.dep_form.specs.Slices.{Expanded, NodesOf}
use Rattle.dep_form.specs.Summaries.{IsExitAt}
use Rattle.tabulate.specs.Frames.{count}
use Rattle.worklists.specs.Growth.{Grows}
use Rattle.tabulate.specs.States.{IsReturnFrom}
use Rattle.widening.specs.declared.expansions.Expansions.{Expansions}

-- the accesses that are expanded
abbrev pub IsOpened : Expansions → Statement → Type 0
IsOpened x = Contains x.accesses.items

-- the edges, with the base edges of the accesses that are expanded alone
abbrev pub Widened : Facts → Expansions → Edge → Type 0
Widened f x = Expanded f.inputs (IsOpened x)

-- the nodes of the accesses have a mark, and no others
pub record AreExpansions (f : Facts) (x : Expansions) : Type 0 where
  pub len : length x.marks.items ≡ count f
  pub marked : (n : NodeId) → slice_index_or x.marks.items n.0 false ≡ true → NodesOf f.inputs (IsOpened x) n
  pub all : (n : NodeId) → NodesOf f.inputs (IsOpened x) n → slice_index_or x.marks.items n.0 false ≡ true

-- whether a label isn't that of a base edge
abbrev pub no_base : Label → Bool
no_base Thin = true
no_base Base = false
no_base (Call k) = true
no_base (Return k) = true

-- edges of the facts, those of calls and returns among them
pub record AreEdges (f : Facts) (E : Edge → Type 0) : Type 0 where
  pub sub : (e : Edge) → E e → IsEdge f.inputs e
  pub calls : (a b : NodeId) (k : CallId) → IsEdge f.inputs (edge a (Call k) b) → E (edge a (Call k) b)
  pub returns : (a b : NodeId) (k : CallId) → IsEdge f.inputs (edge a (Return k) b) → E (edge a (Return k) b)

-- the list has the edges of E that end in the node
abbrev pub AreInto : (Edge → Type 0) → NodeId → List Edge → Type 0
AreInto E n es = (e : Edge) → Contains es e ↔ (E e × (e.to ≡ n))

-- the exits that return to the node by the edges of a list, and the one whose node it is
abbrev pub IsExitNear : Facts → NodeId → List Edge → ExitId → Type 0
IsExitNear f n es d = ((e : Edge) × Contains es e × IsReturnFrom f d e) ⊎ IsExitAt f d n

-- the nodes of D got marks, and were added to a list
pub record Opens (D : NodeId → Type 0) (marks marks' : List Bool) (into into' : List NodeId) : Type 0 where
  pub len : length marks' ≡ length marks
  pub kept : (n : NodeId) → slice_index_or marks n.0 false ≡ true → slice_index_or marks' n.0 false ≡ true
  pub all : (n : NodeId) → D n → slice_index_or marks' n.0 false ≡ true
  pub only : (n : NodeId) → slice_index_or marks' n.0 false ≡ true → (slice_index_or marks n.0 false ≡ true) ⊎ D n
  pub grown : Grows into into' D

-- a node of the method's first ones that belongs to the statement
abbrev pub IsAmongOf : Facts → Statement → ℕ → ℕ → NodeId → Type 0
IsAmongOf f s first k n = (j : ℕ) × (j < k) × (n.0 ≡ first + j) × BelongsTo f.inputs n s
