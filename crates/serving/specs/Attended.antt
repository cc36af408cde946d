-- What attending a desk comes to, by the meanings of its ends.
use Rattle.std.specs.Prelude.{◌≡◌, ◌≢◌, ◌≤◌, ℕ, Bool, true, List, Option, Some, if◌then◌else◌}
use Rattle.std.specs.List.{list_any}
use Rattle.graph_store.specs.Store.{Keeps}
use Rattle.summary_memo.specs.Memo.{view_of}
use Rattle.summary_memo.specs.Rule.{Knows}
use Rattle.sessions.specs.declared.shared.Shared.{Shared}
use Rattle.sessions.specs.declared.desk.Desk.{Desk}
use Rattle.sessions.specs.declared.desk.Outcome.{Outcome}
use Rattle.sessions.specs.declared.desk.Outcome.TheVariants as ends
use Rattle.sessions.specs.Desks.{HasEnded, HasReadAll, HasCause, IsSinkLater}
use Rattle.sessions.specs.Serving.{HasServed}
use Rattle.sessions.specs.Sessions.{IsSessionOf}
use Rattle.run_form.specs.Said.{Ending, Done, ReadFault, WriteFault, NoMemory}
use Rattle.run_form.specs.Endings.{is_no_memory, is_fault}

-- how the session ended, as the definition of a run has it
abbrev pub ending_of : Outcome → Ending
ending_of (ends.Done n) = Done n
ending_of (ends.ReadFault n) = ReadFault n
ending_of (ends.WriteFault n) = WriteFault n
ending_of (ends.NoMemory n) = NoMemory n

-- the session had no memory
abbrev pub lacks_memory : Outcome → Bool
lacks_memory o = is_no_memory (ending_of o)

-- an end of the session failed
abbrev pub is_faulty : Outcome → Bool
is_faulty o = is_fault (ending_of o)

-- the status of a run whose sessions ended so, and none of whose closes and sayings failed
abbrev pub status_by : List Outcome → ℕ
status_by outcomes = if list_any lacks_memory outcomes then 1 else (if list_any is_faulty outcomes then 5 else 0)

-- what no reading of a source changes, and that its count of faults never falls
pub record IsSourceLater {S : Type 0} (faults_of : S → ℕ) (steadiness : S → Bool) (old new : S) : Type 0 where
  pub count : faults_of old ≤ faults_of new
  pub steady : steadiness new ≡ steadiness old
  pub still : steadiness old ≡ true → faults_of new ≡ faults_of old

module _ {S K : Type 0} (left : S → Option (List ℕ)) (source_faults : S → ℕ) (source_steady : S → Bool)
    (written : K → Option (List ℕ)) (label : K → List ℕ) (sink_faults : K → ℕ) (sink_steady : K → Bool) where
  -- the desk was attended to an outcome: what it wrote is as the outcome says, and a fault comes only of an end that isn't steady.
  -- Nothing in it speaks of another desk
  pub record IsAttended (sh : Shared) (old new : Desk S K) : Type 0 where
    pub how : Outcome
    pub outcome : new.outcome ≡ Some how
    pub session : IsSessionOf sh new.session
    pub keeps : Keeps old.session.pass new.session.pass
    pub knows : Knows (view_of old.session.seat) (view_of new.session.seat)
    pub ended : (script : List ℕ) → left old.source ≡ Some script → HasEnded sh.facts script (written old.sink) (written new.sink) how
    pub all_read : (script : List ℕ) → left old.source ≡ Some script → HasReadAll script (left new.source) how
    pub served : (script : List ℕ) → left old.source ≡ Some script → HasServed sh.facts script new.session.pass (view_of new.session.seat) how
    pub cause : HasCause how (source_faults old.source) (source_faults new.source) (sink_faults old.sink) (sink_faults new.sink)
    pub sure_read : source_steady old.source ≡ true → (n : ℕ) → how ≢ ends.ReadFault n
    pub sure_write : sink_steady old.sink ≡ true → (n : ℕ) → how ≢ ends.WriteFault n
    pub of_source : IsSourceLater source_faults source_steady old.source new.source
    pub of_sink : IsSinkLater written label sink_faults sink_steady old.sink new.sink
