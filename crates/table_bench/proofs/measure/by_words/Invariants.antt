use Rattle.table_bench.proofs.measure.by_words.Given as goal

abbrev pub ghosts-table_of : goal.ghosts-table_of
ghosts-table_of a = record { name = a.blank.name; parts = a.blank.parts }
