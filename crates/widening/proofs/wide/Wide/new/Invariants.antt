use Rattle.widening.proofs.wide.Wide.new.Given as goal

abbrev pub ghosts-begin : goal.ghosts-begin
ghosts-begin g a = record { name = a.blank.name; parts = a.blank.parts }
