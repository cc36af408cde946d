use Rattle.folder_bench.proofs.file_steps.measure_classes.Goals as goal

pub measure_hierarchy-requires-clause-few : goal.measure_hierarchy-requires-clause-few
measure_hierarchy-requires-clause-few c = c.in_ok-classes.ensures.few

pub measure_hierarchy-requires-clause-named : goal.measure_hierarchy-requires-clause-named
measure_hierarchy-requires-clause-named c = c.in_ok-classes.ensures.named
