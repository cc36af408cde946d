use Rattle.slicer_ids.proofs.tests.counts_for_nobody.Given as goal

abbrev pub ghosts-three_turns : goal.ghosts-three_turns
ghosts-three_turns a = record { name = a.blank.name; parts = a.blank.parts }
