use Rattle.widening_tests.proofs.wide_tests.widens_to.Given as goal

abbrev pub ghosts-widens_in : goal.ghosts-widens_in
ghosts-widens_in g a = record { name = a.blank.name; parts = a.blank.parts }
