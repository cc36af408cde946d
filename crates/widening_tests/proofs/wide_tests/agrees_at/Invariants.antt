use Rattle.widening_tests.proofs.wide_tests.agrees_at.Given as goal

abbrev pub ghosts-agrees : goal.ghosts-agrees
ghosts-agrees g a = record { name = a.blank.name; parts = a.blank.parts }
