use Rattle.generated_slices.proofs.comparing.widened_by_all.Given as goal

abbrev pub ghosts-at_once_in : goal.ghosts-at_once_in
ghosts-at_once_in g a = record { name = a.blank.name; parts = a.blank.parts }
