-- The slice that a session keeps.
use Rattle.std.specs.Prelude.{◌≡◌, ◌↔◌, List, Contains, AllPairs, Option, Some, None, IfSome}
use Rattle.std.specs.Option.{option_map}
use Rattle.slicer_ids.specs.declared.ids.NodeId.{NodeId}
use Rattle.slicer_ids.specs.declared.ids.Statement.{Statement}
use Rattle.slicer_ids.specs.Order.{StatementBefore}
use Rattle.dep_form.specs.declared.facts.Facts.{Facts}
use Rattle.session_form.specs.States.{State, SeedNodes}
use Rattle.widening.specs.Widened.{IsWide, seeds_of, expansions_of}
use Rattle.sessions.specs.declared.widened.Widened.{Widened}

-- it is the slice with its accesses expanded, which it lists in order
pub record IsWidened (f : Facts) (w : Widened) : Type 0 where
  pub wide : IsWide f w.wide
  pub order : AllPairs StatementBefore w.accesses.items
  pub accesses : (s : Statement) → Contains w.accesses.items s ↔ Contains (expansions_of w.wide) s

-- .. of the nodes of S
pub record IsWidenedOf (f : Facts) (S : NodeId → Type 0) (w : Widened) : Type 0 where
  pub widened : IsWidened f w
  pub seeds : (n : NodeId) → Contains (seeds_of w.wide) n ↔ S n

-- what is kept is a slice of the seeds, with expanded accesses alone
pub record IsOfState (f : Facts) (st : State) (w : Widened) : Type 0 where
  pub of_seeds : IsWidenedOf f (SeedNodes f st) w
  pub within : (s : Statement) → Contains w.accesses.items s → Contains st.expanded s

abbrev pub IsKeptOf : Facts → State → Option Widened → Type 0
IsKeptOf f st kept = IfSome kept (IsOfState f st)

-- the accesses that are expanded in what is kept
abbrev pub accesses_of : Widened → List Statement
accesses_of w = w.accesses.items

abbrev pub accesses_in : Option Widened → Option (List Statement)
accesses_in kept = option_map accesses_of kept

-- one is kept, with exactly these accesses
abbrev pub AreAllIn : List Statement → Option Widened → Type 0
AreAllIn expanded None = ⊥
AreAllIn expanded (Some w) = (s : Statement) → Contains w.accesses.items s ↔ Contains expanded s

-- a slice that was kept is kept, with all that was expanded in it
abbrev pub KeepsSlice : Option Widened → Option Widened → Type 0
KeepsSlice kept kept' =
    (before : List Statement) → accesses_in kept ≡ Some before
    → (after : List Statement) × (accesses_in kept' ≡ Some after) × ((s : Statement) → Contains before s → Contains after s)
