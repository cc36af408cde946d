use Rattle.std.proofs.Common.{length}
use Rattle.class_copy.proofs.main.Given as goal

abbrev pub decreases-loop-rest : goal.decreases-loop-rest
decreases-loop-rest l = length l.rest
