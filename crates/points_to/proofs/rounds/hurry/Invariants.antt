use Rattle.points_to.specs.States.{IsShape, IsSound}
use Rattle.points_to.proofs.rounds.hurry.Given as goal

abbrev pub invariant-loop : goal.invariant-loop
invariant-loop l = record { shape : IsShape l.found; sound : IsSound l.system l.found }
