-- What a session keeps.
use Rattle.std.specs.Prelude.{List, AllPairs, Contains}
use Rattle.slicer_ids.specs.declared.ids.Statement.{Statement}
use Rattle.slicer_ids.specs.Order.{StatementBefore}
use Rattle.dep_form.specs.declared.facts.Facts.{Facts}
use Rattle.report.specs.Replies.{Answer}
use Rattle.session_form.specs.Places.{IsAccess}
use Rattle.session_form.specs.States.{State}
use Rattle.graph_store.specs.Store.{IsPassOf, HasInputsOf}
use Rattle.summary_memo.specs.Memo.{IsSeatOf}
use Rattle.session_slices.specs.Rooms.{IsFinderOf, statements_in}
use Rattle.sessions.specs.declared.shared.Shared.{Shared}
use Rattle.sessions.specs.declared.session.Session.{Session}
use Rattle.sessions.specs.Keeping.{answer_kept}
use Rattle.sessions.specs.Widened.{IsKeptOf}

-- both lists are in order, and what is expanded are accesses
pub record IsStateOf (f : Facts) (st : State) : Type 0 where
  pub seeds : AllPairs StatementBefore st.seeds
  pub expanded : AllPairs StatementBefore st.expanded
  pub accesses : (s : Statement) → Contains st.expanded s → IsAccess f s

-- its parts are of what is shared
pub record IsSessionOf (sh : Shared) (s : Session) : Type 0 where
  pub state : IsStateOf sh.facts s.state
  pub widened : IsKeptOf sh.facts s.state s.widened
  pub finder : IsFinderOf sh.facts s.finder
  pub pass : IsPassOf sh.store.cells.items s.pass
  pub inputs : HasInputsOf sh.facts s.pass
  pub seat : IsSeatOf sh.memo s.seat

-- the reply to the last command
abbrev pub answer_in : Session → Answer
answer_in s = answer_kept (statements_in s.finder) s.kept
