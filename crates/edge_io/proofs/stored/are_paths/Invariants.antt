use Rattle.edge_io.proofs.PathTests.{Upto}
use Rattle.edge_io.proofs.stored.are_paths.Given as goal

abbrev pub invariant-loop-place : goal.invariant-loop-place
invariant-loop-place l = Upto l.files l.place
