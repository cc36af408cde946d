use Rattle.widening.proofs.wide.Wide.expand_all.Given as goal

abbrev pub ghosts-widened : goal.ghosts-widened
ghosts-widened g a = record { name = a.blank.name; parts = a.blank.parts }
