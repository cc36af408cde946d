use Rattle.session_tests.proofs.slices.finds.Given as goal

abbrev pub ghosts-finds_all : goal.ghosts-finds_all
ghosts-finds_all g a = record { name = a.blank.name; parts = a.blank.parts }
