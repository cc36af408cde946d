use Rattle.sessions.proofs.attending.attend.Given as goal

abbrev pub ghosts-attend_counted : goal.ghosts-attend_counted
ghosts-attend_counted g a = record { name = a.blank.name; parts = a.blank.parts }
