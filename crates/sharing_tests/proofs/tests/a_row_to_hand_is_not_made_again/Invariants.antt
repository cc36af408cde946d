use Rattle.sharing_tests.proofs.tests.a_row_to_hand_is_not_made_again.Given as goal

abbrev pub ghosts-add_table : goal.ghosts-add_table
ghosts-add_table g a = record { name = a.blank.name; parts = a.blank.parts }
