-- What a pass has seen, and a seat knows, of all that a script was replied.
use Rattle.std.specs.Prelude.{◌≡◌, ◌++◌, Bool, ℕ, List, [], ◌∷◌, Ok, Option}
use Rattle.dep_form.specs.declared.facts.Facts.{Facts}
use Rattle.graph_store.specs.declared.pass.GraphPass.{GraphPass}
use Rattle.script.specs.Lines.{Says}
use Rattle.script.specs.declared.command.Command.{Command}
use Rattle.script_lines.specs.declared.reader.ScriptReader.{ScriptReader}
use Rattle.summary_memo.specs.declared.view.View.{View}
use Rattle.summary_memo.specs.Memo.{view_of}
use Rattle.report.specs.Replies.{Answer}
use Rattle.session_form.specs.States.{State, at_first}
use Rattle.session_form.specs.Scripts.{IsTrimmed, AreLines, AreReplies}
use Rattle.sessions.specs.declared.desk.Outcome.{Outcome}
use Rattle.sessions.specs.declared.desk.Outcome.TheVariants.{Done, ReadFault, WriteFault, NoMemory}
use Rattle.sessions.specs.declared.session.Session.{Session}
use Rattle.sessions.specs.Needed.{HasForReply}
use Rattle.sessions.specs.Desks.{IsReplied, HasEnded, HasReadAll}

module _ (f : Facts) where
  -- all that the reply to a line needs, where the line is a command
  abbrev pub HasForLine : List ℕ → State → GraphPass → View → Type 0
  HasForLine l st p v = (t : List ℕ) (c : Command) → IsTrimmed l t → Says t (Ok c) → HasForReply f st c p v

  -- .. and that to each of the lines, in the state in which it is answered
  abbrev pub HasForLines : List (List ℕ) → GraphPass → View → Type 0
  HasForLines lines p v = (before after : List (List ℕ)) (l : List ℕ) (rs : List Answer) (st : State) → lines ≡ before ++ (l ∷ after) → AreReplies f at_first before rs st → HasForLine l st p v

  -- .. and that to each line of a script
  abbrev pub HasForScript : List ℕ → GraphPass → View → Type 0
  HasForScript script p v = (is_cut : Bool) (lines : List (List ℕ)) → AreLines script is_cut lines → HasForLines lines p v

  -- .. where the script was read to its end
  abbrev pub HasServed : List ℕ → GraphPass → View → Outcome → Type 0
  HasServed script p v (Done n) = HasForScript script p v
  HasServed script p v (ReadFault n) = Unit {0}
  HasServed script p v (WriteFault n) = Unit {0}
  HasServed script p v (NoMemory n) = Unit {0}

  -- so many replies are written, and the session has all that the replies to the lines that were taken need
  pub record IsServed (script : List ℕ) (start : Option (List ℕ)) (r : ScriptReader) (left : Option (List ℕ)) (s : Session) (written : Option (List ℕ)) (n : ℕ) : Type 0 where
    pub replied : IsReplied f script start r left s.state written n
    pub served : HasForLines replied.lines s.pass (view_of s.seat)

  -- a session that ended, what is left of its script, and what it has
  pub record EndsServed (script : List ℕ) (start : Option (List ℕ)) (left : Option (List ℕ)) (s : Session) (written : Option (List ℕ)) (o : Outcome) : Type 0 where
    pub ended : HasEnded f script start written o
    pub read : HasReadAll script left o
    pub served : HasServed script s.pass (view_of s.seat) o
