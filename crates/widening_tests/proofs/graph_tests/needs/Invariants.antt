use Rattle.widening_tests.proofs.graph_tests.needs.Given as goal

abbrev pub ghosts-needs_in : goal.ghosts-needs_in
ghosts-needs_in g a = record { name = a.blank.name; parts = a.blank.parts }
