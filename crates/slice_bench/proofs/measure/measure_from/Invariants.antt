use Rattle.slice_bench.proofs.measure.measure_from.Given as goal

abbrev pub ghosts-measure_all : goal.ghosts-measure_all
ghosts-measure_all a = record { name = a.blank.name; parts = a.blank.parts }
