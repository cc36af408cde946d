use Rattle.input_tables.proofs.controls.of_points.Goals as goal
