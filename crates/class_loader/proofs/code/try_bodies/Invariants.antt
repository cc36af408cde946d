use Rattle.body_rules.specs.Methods.{HaveBodiesBefore}
use Rattle.class_loader.proofs.code.try_bodies.Given as goal

abbrev pub invariant-loop-place : goal.invariant-loop-place
invariant-loop-place l = HaveBodiesBefore l.class l.place
