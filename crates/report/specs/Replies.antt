-- Replies and their texts.
use Rattle.std.specs.Prelude.{◌<◌, ◌++◌, ℕ, List, All, codes, length}
use Rattle.std.specs.Fmt.{decimal}
use Rattle.std.specs.List.{flat_map}
use Rattle.slicer_ids.specs.declared.ids.SiteId.{SiteId}
use Rattle.slicer_ids.specs.declared.ids.Statement.{Statement}
use Rattle.dep_form.specs.declared.facts.Facts.{Facts}
use Rattle.dep_form.specs.declared.access.Explanation.{Explanation}
use Rattle.dep_form.specs.LookUps.{IsStatement}
use Rattle.report.specs.declared.reply.CommandError.{CommandError}
use Rattle.report.specs.declared.reply.CommandError.TheVariants.{NoClass, NoMethod, NoStatement, NoLine, NoAccess, NoSeed, ScriptTooLong, LineTooLong, UnknownCommand, WrongArity, BadNumber}
use Rattle.report.specs.declared.reply.LinePlace.{LinePlace}
use Rattle.report.specs.declared.reply.Reply.{Reply}
use Rattle.report.specs.declared.reply.Reply.TheVariants as borrowed
use Rattle.report.specs.Texts.{statement_line, line_line, site_line}

-- a reply as a value
pub data Answer : Type 0 where
  Done : Answer
  Statements : (statements : List Statement) → Answer
  Lines : (lines : List LinePlace) → Answer
  Explained : (explanation : Explanation) → Answer
  Error : (error : CommandError) → Answer

-- what a reply that borrows says
abbrev pub answer_of : Reply → Answer
answer_of borrowed.Done = Done
answer_of (borrowed.Statements ss) = Statements ss.now
answer_of (borrowed.Lines ls) = Lines ls.now
answer_of (borrowed.Explained e) = Explained e.now
answer_of (borrowed.Error e) = Error e

-- why a command is refused
abbrev pub error_text : CommandError → List ℕ
error_text NoClass = codes "error 1 no such class\n"
error_text NoMethod = codes "error 2 no such method\n"
error_text NoStatement = codes "error 3 no such statement\n"
error_text NoLine = codes "error 4 no such line\n"
error_text NoAccess = codes "error 5 not a heap access\n"
error_text NoSeed = codes "error 6 no seed\n"
error_text ScriptTooLong = codes "error 7 script too long\n"
error_text LineTooLong = codes "error 8 line too long\n"
error_text UnknownCommand = codes "error 9 unknown command\n"
error_text WrongArity = codes "error 10 wrong number of words\n"
error_text BadNumber = codes "error 11 bad number\n"

-- a word, how many lines follow, and the end of the line
abbrev pub counted : List ℕ → ℕ → List ℕ
counted word count = word ++ (codes " " ++ (decimal count ++ codes "\n"))

module _ (f : Facts) where
  -- a word with the number of the statements, and a line for each
  abbrev pub statements_text : List ℕ → List Statement → List ℕ
  statements_text word ss = counted word (length ss) ++ flat_map (statement_line f) ss

  abbrev pub lines_text : List LinePlace → List ℕ
  lines_text ls = counted (codes "lines") (length ls) ++ flat_map (λ (l : LinePlace). line_line f l.method l.line) ls

  abbrev pub sites_text : List SiteId → List ℕ
  sites_text hs = counted (codes "objects") (length hs) ++ flat_map (site_line f) hs

  abbrev pub explanation_text : Explanation → List ℕ
  explanation_text e =
      codes "explain\n" ++ (sites_text e.objects ++ (statements_text (codes "left") e.left ++ statements_text (codes "right") e.right))

  -- the text of a reply
  abbrev pub text : Answer → List ℕ
  text Done = codes "ok\n"
  text (Statements ss) = statements_text (codes "statements") ss
  text (Lines ls) = lines_text ls
  text (Explained e) = explanation_text e
  text (Error e) = error_text e

  -- its statements and sites are of the facts
  abbrev pub IsOfFacts : Answer → Type 0
  IsOfFacts Done = Unit {0}
  IsOfFacts (Statements ss) = All (IsStatement f) ss
  IsOfFacts (Lines ls) = Unit {0}
  IsOfFacts (Explained e) = All (λ (s : SiteId). s.0 < length f.sites) e.objects × All (IsStatement f) e.left × All (IsStatement f) e.right
  IsOfFacts (Error e) = Unit {0}
