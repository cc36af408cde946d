use Rattle.generated_slices.proofs.comparing.widened_by.Given as goal

abbrev pub ghosts-widened_in : goal.ghosts-widened_in
ghosts-widened_in g a = record { name = a.blank.name; parts = a.blank.parts }
