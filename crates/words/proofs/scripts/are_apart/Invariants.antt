use Rattle.words.proofs.Apart.{Upto}
use Rattle.words.proofs.scripts.are_apart.Given as goal

abbrev pub invariant-loop-place : goal.invariant-loop-place
invariant-loop-place l = Upto l.scripts l.place
