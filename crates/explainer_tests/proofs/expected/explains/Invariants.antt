use Rattle.explainer_tests.proofs.expected.explains.Given as goal

abbrev pub ghosts-explains_in : goal.ghosts-explains_in
ghosts-explains_in g a = record { name = a.blank.name; parts = a.blank.parts }
