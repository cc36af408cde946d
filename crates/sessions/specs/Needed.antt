-- What replies need of the shared graphs and rows.
use Rattle.std.specs.Prelude.{◌≡◌, ◌≢◌, ◌⊎◌, [], Contains}
use Rattle.slicer_ids.specs.declared.ids.Mode.TheVariants.{Thin, Full}
use Rattle.slicer_ids.specs.declared.ids.Statement.{Statement}
use Rattle.dep_form.specs.declared.access.Access.{Access}
use Rattle.dep_form.specs.declared.facts.Facts.{Facts}
use Rattle.script.specs.declared.command.Command.{Command}
use Rattle.script.specs.declared.command.Command.TheVariants as command
use Rattle.session_form.specs.Places.{NamesAccess}
use Rattle.session_form.specs.States.{State, SeedNodes}
use Rattle.graph_store.specs.declared.pass.GraphPass.{GraphPass}
use Rattle.summary_memo.specs.declared.view.View.{View}
use Rattle.session_walk.specs.Knowledge.{HasRows}
use Rattle.session_slices.specs.Needs.{SliceOf, HasNeeded}

module _ (f : Facts) (st : State) where
  -- the pass has seen, and the seat knows, all that the slice of the seeds without expansions needs
  abbrev pub HasForSlice : GraphPass → View → Type 0
  HasForSlice p v = st.seeds ≢ [] → st.expanded ≡ [] → HasNeeded f Thin (SliceOf f Thin (SeedNodes f st)) p v

  -- .. and all that the reply to the command needs
  abbrev pub HasForReply : Command → GraphPass → View → Type 0
  HasForReply command.Slice p v = HasForSlice p v
  HasForReply command.Lines p v = HasForSlice p v
  HasForReply command.Full p v = st.seeds ≢ [] → HasNeeded f Full (SliceOf f Full (SeedNodes f st)) p v
  HasForReply (command.Explain x y) p v =
      (s t : Statement) (a b : Access) → NamesAccess f x s a → NamesAccess f y t b
      → HasNeeded f Thin (SliceOf f Thin (Contains a.object)) p v × HasNeeded f Thin (SliceOf f Thin (Contains b.object)) p v
  HasForReply c p v = Unit {0}

  -- the seat knows the rows alone that the slice of the seeds without expansions needs
  abbrev pub HasRowsForSlice : View → Type 0
  HasRowsForSlice v = st.seeds ≢ [] → st.expanded ≡ [] → HasRows f Thin (SliceOf f Thin (SeedNodes f st)) v

  -- .. and those that the reply to the command needs
  abbrev pub HasRowsForReply : Command → View → Type 0
  HasRowsForReply command.Slice v = HasRowsForSlice v
  HasRowsForReply command.Lines v = HasRowsForSlice v
  HasRowsForReply command.Full v = st.seeds ≢ [] → HasRows f Full (SliceOf f Full (SeedNodes f st)) v
  HasRowsForReply (command.Explain x y) v =
      (s t : Statement) (a b : Access) → NamesAccess f x s a → NamesAccess f y t b
      → HasRows f Thin (SliceOf f Thin (Contains a.object)) v × HasRows f Thin (SliceOf f Thin (Contains b.object)) v
  HasRowsForReply c v = Unit {0}

-- no slice is asked for that has accesses expanded
abbrev pub IsPlain : State → Command → Type 0
IsPlain st command.Slice = (st.seeds ≡ []) ⊎ (st.expanded ≡ [])
IsPlain st command.Lines = (st.seeds ≡ []) ⊎ (st.expanded ≡ [])
IsPlain st c = Unit {0}

-- the reply takes no memory, where all that it needs is there
abbrev pub TakesNoMemory : State → Command → Type 0
TakesNoMemory st command.Slice = IsPlain st command.Slice
TakesNoMemory st command.Full = Unit {0}
TakesNoMemory st command.Reset = Unit {0}
TakesNoMemory st c = ⊥
