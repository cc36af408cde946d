-- What an answer does to a session.
use Rattle.std.specs.Prelude.{◌≡◌, ◌≢◌, ℕ, List, [], Contains, Option, Some, None, Result, Ok, OnOk, OnErr, IfOk}
use Rattle.slicer_ids.specs.declared.ids.NoMemory.{NoMemory}
use Rattle.slicer_ids.specs.declared.ids.Statement.{Statement}
use Rattle.script.specs.declared.command.Command.{Command}
use Rattle.script.specs.declared.command.Command.TheVariants as command
use Rattle.graph_store.specs.Store.{Keeps}
use Rattle.summary_memo.specs.Memo.{view_of}
use Rattle.summary_memo.specs.Rule.{Knows}
use Rattle.session_form.specs.States.{State, SeedNodes}
use Rattle.session_form.specs.Answers.{Answers}
use Rattle.session_slices.specs.Rooms.{statements_in}
use Rattle.session_state.specs.declared.told.Told.{Told}
use Rattle.session_state.specs.declared.told.Told.TheVariants.{Same, Other, Refused}
use Rattle.sessions.specs.declared.kept.Kept.{Kept}
use Rattle.sessions.specs.declared.widened.Widened.{Widened}
use Rattle.sessions.specs.declared.shared.Shared.{Shared}
use Rattle.sessions.specs.declared.session.Session.{Session}
use Rattle.sessions.specs.Keeping.{answer_kept}
use Rattle.sessions.specs.Needed.{HasForReply, HasRowsForReply, IsPlain, TakesNoMemory}
use Rattle.sessions.specs.Turns.{TakesTurns}
use Rattle.sessions.specs.Widened.{accesses_in, AreAllIn, KeepsSlice}
use Rattle.sessions.specs.Sessions.{IsSessionOf}

-- a slice is asked for that has accesses expanded
pub record IsWide (st : State) : Type 0 where
  pub seeded : st.seeds ≢ []
  pub expanded : st.expanded ≢ []

abbrev pub AsksWide : State → Command → Type 0
AsksWide st command.Slice = IsWide st
AsksWide st command.Lines = IsWide st
AsksWide st c = ⊥

-- what is kept after other seeds, and after the same ones
pub record IsKeptBySeeds (st st' : State) (kept kept' : Option Widened) : Type 0 where
  pub same : st'.seeds ≡ st.seeds → kept' ≡ kept
  pub other : st'.seeds ≢ st.seeds → kept' ≡ None

-- what is kept after a slice: where it has accesses expanded, itself
pub record IsKeptBySlice (st : State) (kept kept' : Option Widened) : Type 0 where
  pub wide : IsWide st → AreAllIn st.expanded kept'
  pub plain : (IsWide st → ⊥) → kept' ≡ kept

-- what is kept after a command
abbrev pub LeavesKept : Command → State → State → Option Widened → Option Widened → Type 0
LeavesKept (command.Seed p) st st' kept kept' = IsKeptBySeeds st st' kept kept'
LeavesKept (command.SeedLine name line) st st' kept kept' = IsKeptBySeeds st st' kept kept'
LeavesKept command.Reset st st' kept kept' = kept' ≡ None
LeavesKept command.Slice st st' kept kept' = IsKeptBySlice st kept kept'
LeavesKept command.Lines st st' kept kept' = IsKeptBySlice st kept kept'
LeavesKept c st st' kept kept' = kept' ≡ kept

-- what is kept after a command that tells the session something
abbrev pub left_by : Told → Option Widened → Option Widened
left_by Same kept = kept
left_by Other kept = None
left_by (Refused e) kept = kept

-- a command was answered, or there was no memory
pub record IsAnswered (sh : Shared) (c : Command) (result : Result Kept NoMemory) (s s' : Session) (steps steps' : ℕ) : Type 0 where
  pub session : IsSessionOf sh s'
  pub keeps : Keeps s.pass s'.pass
  pub knows : Knows (view_of s.seat) (view_of s'.seat)
  pub answer : IfOk result (λ k. Answers sh.facts s.state c (answer_kept (statements_in s'.finder) k) s'.state)
  pub unchanged : OnErr result (s'.state ≡ s.state)
  pub kept : OnErr result (KeepsSlice s.widened s'.widened)
  pub needed : OnOk result (HasForReply sh.facts s.state c s'.pass (view_of s'.seat))
  pub had : IsPlain s.state c → HasForReply sh.facts s.state c s.pass (view_of s.seat) → steps' ≡ steps
  pub rows : IsPlain s.state c → HasRowsForReply sh.facts s.state c (view_of s.seat) → steps' ≡ steps
  pub free : TakesNoMemory s.state c → HasForReply sh.facts s.state c s.pass (view_of s.seat) → (k : Kept) × (result ≡ Ok k)
  pub turns : OnOk result (AsksWide s.state c → TakesTurns sh.facts (Contains s.state.expanded) (SeedNodes sh.facts s.state) (accesses_in s.widened) steps steps')
  pub leaves : OnOk result (LeavesKept c s.state s'.state s.widened s'.widened)
