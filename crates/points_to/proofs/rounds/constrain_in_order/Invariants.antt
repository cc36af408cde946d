use Rattle.points_to.specs.States.{IsShape, IsSound}
use Rattle.points_to.proofs.rounds.constrain_in_order.Given as goal

abbrev pub invariant-loop-number : goal.invariant-loop-number
invariant-loop-number l = record { shape : IsShape l.found; sound : IsSound l.system l.initial.found → IsSound l.system l.found }
