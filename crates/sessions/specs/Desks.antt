-- What a desk is, and what attending it comes to.
use Rattle.std.specs.Prelude.{◌≡◌, ◌≤◌, ◌<◌, ◌+◌, ◌⊎◌, ◌++◌, ℕ, Bool, true, false, List, [], ◌∷◌, length, take, drop, Option, Some, None, if◌then◌else◌}
use Rattle.std.specs.List.{flat_map}
use Rattle.dep_form.specs.declared.facts.Facts.{Facts}
use Rattle.edge_io.specs.Faults.{Rose}
use Rattle.edge_io.specs.Reads.{appended}
use Rattle.edge_io.specs.declared.sink.SinkError.{SinkError}
use Rattle.edge_io.specs.declared.sink.SinkError.TheVariants as refused
use Rattle.script.specs.declared.command.Command.{Command}
use Rattle.script_lines.specs.declared.reader.ScriptReader.{ScriptReader}
use Rattle.script_lines.specs.Limits.{kept_bytes}
use Rattle.script_lines.specs.Reading.{IsBetween}
use Rattle.report.specs.declared.reply.CommandError.TheVariants.{ScriptTooLong}
use Rattle.report.specs.Replies.{Answer, Error, text}
use Rattle.session_form.specs.States.{State, at_first}
use Rattle.session_form.specs.Answers.{Answers}
use Rattle.session_form.specs.Scripts.{AreLines, AreReplies, AreScriptReplies}
use Rattle.sessions.specs.declared.shared.Shared.{Shared}
use Rattle.sessions.specs.declared.desk.Desk.{Desk}
use Rattle.sessions.specs.declared.desk.Outcome.{Outcome}
use Rattle.sessions.specs.declared.desk.Outcome.TheVariants.{Done, ReadFault, WriteFault, NoMemory}
use Rattle.sessions.specs.Sessions.{IsSessionOf}

-- nothing was told, read or written
pub record IsFresh {S K : Type 0} (sh : Shared) (d : Desk S K) : Type 0 where
  pub outcome : d.outcome ≡ None
  pub session : IsSessionOf sh d.session
  pub state : d.session.state ≡ at_first
  pub widened : d.session.widened ≡ None
  pub reader : (script : List ℕ) → IsBetween script [] d.reader (Some script)

-- what no call on a sink changes, that its count of faults never falls, and that bytes are only put behind those that were written
pub record IsSinkLater {K : Type 0} (written_of : K → Option (List ℕ)) (label_of : K → List ℕ) (faults_of : K → ℕ) (steadiness : K → Bool) (old new : K) : Type 0 where
  pub more : (piece : List ℕ) × (written_of new ≡ appended piece (written_of old))
  pub label : label_of new ≡ label_of old
  pub count : faults_of old ≤ faults_of new
  pub steady : steadiness new ≡ steadiness old
  pub still : steadiness old ≡ true → faults_of new ≡ faults_of old

-- how many replies were written whole
abbrev pub count_of : Outcome → ℕ
count_of (Done n) = n
count_of (ReadFault n) = n
count_of (WriteFault n) = n
count_of (NoMemory n) = n

-- how a refusal of the sink ends a session
abbrev pub stopped_by : SinkError → ℕ → Outcome
stopped_by refused.NoMemory n = NoMemory n
stopped_by refused.Fault n = WriteFault n

module _ (f : Facts) where
  -- n of the replies are written whole, and of the next one less than the whole
  pub record HasWritten (answers : List Answer) (n : ℕ) (bytes : List ℕ) : Type 0 where
    pub whole : n ≤ length answers
    pub more : ℕ
    pub less : (more ≡ 0) ⊎ (more < length (flat_map (text f) (take 1 (drop n answers))))
    pub spells : bytes ≡ flat_map (text f) (take n answers) ++ take more (flat_map (text f) (drop n answers))

  -- a command's answer was written whole, and the session has been told what the command tells it
  abbrev pub IsShown : State → Command → State → Option (List ℕ) → Option (List ℕ) → Type 0
  IsShown st c st' old new = (a : Answer) × Answers f st c a st' × (new ≡ appended (text f a) old)

  -- less than the whole of an answer was written, or nothing
  abbrev pub IsPartShown : Answer → Option (List ℕ) → Option (List ℕ) → Type 0
  IsPartShown a old new = (k : ℕ) × ((k ≡ 0) ⊎ (k < length (text f a))) × (new ≡ appended (take k (text f a)) old)

  -- a line was answered, and its reply written, if it has one
  abbrev pub IsLineTold : List ℕ → Bool → State → State → Option (List ℕ) → Option (List ℕ) → Type 0
  IsLineTold l b st st' old new =
      (answers : List Answer) × AreReplies f st (l ∷ []) answers st' × (length answers ≡ (if b then 1 else 0)) × (new ≡ appended (flat_map (text f) answers) old)

  -- .. or less than the whole of its reply was written
  abbrev pub IsLinePart : List ℕ → State → Option (List ℕ) → Option (List ℕ) → Type 0
  IsLinePart l st old new =
      (answers : List Answer) (last : State) → AreReplies f st (l ∷ []) answers last
      → (k : ℕ) × ((k ≡ 0) ⊎ (k < length (flat_map (text f) answers))) × (new ≡ appended (take k (flat_map (text f) answers)) old)

  -- the bytes are the first of such a line, which was answered, and its reply counted
  abbrev pub IsTaken : List ℕ → State → State → Option (List ℕ) → Option (List ℕ) → ℕ → ℕ → Type 0
  IsTaken bytes st st' old new n m =
      (b : Bool) × (m ≡ n + (if b then 1 else 0)) × ((l : List ℕ) → bytes ≡ take kept_bytes l → IsLineTold l b st st' old new)

  -- .. or whose answer, or its writing, was refused
  abbrev pub IsStopped : List ℕ → State → Option (List ℕ) → Option (List ℕ) → ℕ → ℕ → ℕ → Outcome → Type 0
  IsStopped bytes st old new faults faults' n o =
      (e : SinkError) × (o ≡ stopped_by e n) × (e ≡ refused.Fault → Rose faults faults') × ((l : List ℕ) → bytes ≡ take kept_bytes l → IsLinePart l st old new)

  -- .. and which is the last one
  abbrev pub IsLastTaken : List ℕ → State → Option (List ℕ) → Option (List ℕ) → ℕ → ℕ → ℕ → Outcome → Type 0
  IsLastTaken bytes st old new faults faults' n o =
      ((m : ℕ) × (st' : State) × (o ≡ Done m) × IsTaken bytes st st' old new n m) ⊎ IsStopped bytes st old new faults faults' n o

  -- that the script is too long was written whole, or less than that
  abbrev pub IsTooLongTold : Option (List ℕ) → Option (List ℕ) → ℕ → ℕ → ℕ → Outcome → Type 0
  IsTooLongTold old new faults faults' n o =
      ((o ≡ Done (n + 1)) × (new ≡ appended (text f (Error ScriptTooLong)) old))
      ⊎ ((e : SinkError) × (o ≡ stopped_by e n) × (e ≡ refused.Fault → Rose faults faults') × IsPartShown (Error ScriptTooLong) old new)

  -- so many replies to the lines that were taken of a script are written whole, and the session's state is the one after these lines
  pub record IsReplied (script : List ℕ) (start : Option (List ℕ)) (r : ScriptReader) (left : Option (List ℕ)) (st : State) (written : Option (List ℕ)) (n : ℕ) : Type 0 where
    pub lines : List (List ℕ)
    pub answers : List Answer
    pub between : IsBetween script lines r left
    pub replies : AreReplies f at_first lines answers st
    pub count : length answers ≡ n
    pub spells : written ≡ appended (flat_map (text f) answers) start

  -- all replies to the script were written
  abbrev pub IsDone : List ℕ → Option (List ℕ) → Option (List ℕ) → ℕ → Type 0
  IsDone script start written n =
      (answers : List Answer) × AreScriptReplies f script answers × (length answers ≡ n) × (written ≡ appended (flat_map (text f) answers) start)

  -- so many were written whole, and no other bytes than a part of the next
  abbrev pub IsPart : List ℕ → Option (List ℕ) → Option (List ℕ) → ℕ → Type 0
  IsPart script start written n =
      (answers : List Answer) → AreScriptReplies f script answers → (bytes : List ℕ) × HasWritten answers n bytes × (written ≡ appended bytes start)

  abbrev pub HasEnded : List ℕ → Option (List ℕ) → Option (List ℕ) → Outcome → Type 0
  HasEnded script start written (Done n) = IsDone script start written n
  HasEnded script start written (ReadFault n) = IsPart script start written n
  HasEnded script start written (WriteFault n) = IsPart script start written n
  HasEnded script start written (NoMemory n) = IsPart script start written n

-- nothing is left of the script, or it is too long
abbrev pub IsAllRead : List ℕ → Option (List ℕ) → Type 0
IsAllRead script left = (left ≡ Some []) ⊎ ((lines : List (List ℕ)) × AreLines script true lines)

-- .. where it was attended to its end
abbrev pub HasReadAll : List ℕ → Option (List ℕ) → Outcome → Type 0
HasReadAll script left (Done n) = IsAllRead script left
HasReadAll script left (ReadFault n) = Unit {0}
HasReadAll script left (WriteFault n) = Unit {0}
HasReadAll script left (NoMemory n) = Unit {0}

-- a fault comes only where the count of that end rose
abbrev pub HasCause : Outcome → ℕ → ℕ → ℕ → ℕ → Type 0
HasCause (Done n) source source' sink sink' = Unit {0}
HasCause (ReadFault n) source source' sink sink' = Rose source source'
HasCause (WriteFault n) source source' sink sink' = Rose sink sink'
HasCause (NoMemory n) source source' sink sink' = Unit {0}

-- it was attended to its end, or there was no memory
abbrev pub IsNoFault : Outcome → Type 0
IsNoFault (Done n) = Unit {0}
IsNoFault (ReadFault n) = ⊥
IsNoFault (WriteFault n) = ⊥
IsNoFault (NoMemory n) = Unit {0}
