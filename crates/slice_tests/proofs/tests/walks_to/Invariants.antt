use Rattle.slice_tests.proofs.tests.walks_to.Given as goal

abbrev pub ghosts-slices_to : goal.ghosts-slices_to
ghosts-slices_to g a = record { name = a.blank.name; parts = a.blank.parts }
