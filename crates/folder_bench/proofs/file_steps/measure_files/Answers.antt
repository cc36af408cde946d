use Rattle.folder_bench.proofs.file_steps.measure_files.Goals as goal

pub measure_read-requires-clause-below : goal.measure_read-requires-clause-below
measure_read-requires-clause-below g c = c.in_ok-files.ensures.below

pub measure_read-requires-clause-number : goal.measure_read-requires-clause-number
measure_read-requires-clause-number g c = c.in_ok-files.ensures.number

pub measure_read-requires-clause-total : goal.measure_read-requires-clause-total
measure_read-requires-clause-total g c = c.in_ok-files.ensures.total
