use Rattle.widening_tests.proofs.graph_tests.asks.Given as goal

abbrev pub ghosts-asks_in : goal.ghosts-asks_in
ghosts-asks_in g a = record { name = a.blank.name; parts = a.blank.parts }
