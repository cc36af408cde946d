-- What a session shows.
use Rattle.std.specs.Prelude.{List}
use Rattle.slicer_ids.specs.declared.ids.Statement.{Statement}
use Rattle.report.specs.Replies.{Answer, Done, Statements, Lines, Explained, Error}
use Rattle.sessions.specs.declared.kept.Kept.{Kept}
use Rattle.sessions.specs.declared.kept.Kept.TheVariants as kept

-- the reply, where these statements were found last
abbrev pub answer_kept : List Statement → Kept → Answer
answer_kept ss kept.Done = Done
answer_kept ss kept.Statements = Statements ss
answer_kept ss (kept.Widened ts) = Statements ts.items
answer_kept ss (kept.Lines ls) = Lines ls.items
answer_kept ss (kept.Explained e) = Explained e
answer_kept ss (kept.Refused e) = Error e
