use Rattle.generated_slices.proofs.comparing.walked.Given as goal

abbrev pub ghosts-walked_in : goal.ghosts-walked_in
ghosts-walked_in g a = record { name = a.blank.name; parts = a.blank.parts }
