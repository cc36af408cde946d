-- What a session has been told: its seeds, and the accesses that it expanded.
use Rattle.std.specs.Prelude.{◌≡◌, ◌⊎◌, ◌<◌, ℕ, List, [], Contains, Option, Some, None}
use Rattle.slicer_ids.specs.Sets.{IsOrderedListOf}
use Rattle.slicer_ids.specs.Order.{StatementBefore}
use Rattle.slicer_ids.specs.declared.ids.NodeId.{NodeId}
use Rattle.slicer_ids.specs.declared.ids.Statement.{Statement}
use Rattle.dep_form.specs.declared.access.Access.{Access}
use Rattle.dep_form.specs.declared.node.Node.TheVariants.{Own}
use Rattle.dep_form.specs.declared.facts.Facts.{Facts}
use Rattle.dep_form.specs.Inputs.{IsNode, BelongsTo}
use Rattle.dep_form.specs.LookUps.{HasLine, IsStatement, IsAccessAt}
use Rattle.dep_form.specs.Slices.{Slice, FullSlice, NodesOf, StatementsOf}
use Rattle.report.specs.declared.reply.LinePlace.{LinePlace}

-- what nodes belong to is listed, with its line or that it has none
abbrev pub AreListed : Facts → Type 0
AreListed f = (n : NodeId) (s : Statement) → BelongsTo f.inputs n s → IsStatement f s

-- each statement is listed where it has nodes, and only there; and accesses are statements. Facts of a program are such
pub record HasEachLine (f : Facts) : Type 0 where
  pub listed : AreListed f
  pub has_node : (s : Statement) → IsStatement f s → (n : NodeId) × IsNode f.inputs n s.method (Own s.pc)
  pub accesses : (s : Statement) (a : Access) → IsAccessAt f s a → IsStatement f s

-- both as lists in order
pub record State : Type 0 where
  pub seeds : List Statement
  pub expanded : List Statement

abbrev pub at_first : State
at_first = record { seeds = []; expanded = [] }

-- the list has the members of the other one, and those for which P holds
abbrev pub Gains : List Statement → (Statement → Type 0) → List Statement → Type 0
Gains before P after = IsOrderedListOf StatementBefore after (λ s. Contains before s ⊎ P s)

-- no line comes before each line
abbrev pub IsLesserLine : Option ℕ → Option ℕ → Type 0
IsLesserLine None None = ⊥
IsLesserLine None (Some m) = Unit {0}
IsLesserLine (Some l) None = ⊥
IsLesserLine (Some l) (Some m) = l < m

-- by method, then by line
abbrev pub LineBefore : LinePlace → LinePlace → Type 0
LineBefore a b = (a.method.0 < b.method.0) ⊎ ((a.method ≡ b.method) × IsLesserLine a.line b.line)

module _ (f : Facts) (state : State) where
  -- the nodes of the seeds
  abbrev pub SeedNodes : NodeId → Type 0
  SeedNodes = NodesOf f.inputs (Contains state.seeds)

  -- the statements of the slice with the expanded accesses, and of the full slice
  abbrev pub InSlice : Statement → Type 0
  InSlice = StatementsOf f.inputs (Slice f.inputs (Contains state.expanded) SeedNodes)

  abbrev pub InFullSlice : Statement → Type 0
  InFullSlice = StatementsOf f.inputs (FullSlice f.inputs SeedNodes)

  -- a line of a statement of the slice
  abbrev pub IsLineOfSlice : LinePlace → Type 0
  IsLineOfSlice l = (s : Statement) × InSlice s × (l.method ≡ s.method) × HasLine f s l.line
