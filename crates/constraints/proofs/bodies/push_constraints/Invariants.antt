use Rattle.std.proofs.Common.{take}
use Rattle.worklists.specs.Growth.{FromOne}
use Rattle.variable_tables.specs.Growth.{GrowsInOrder}
use Rattle.constraints.specs.Bodies.{MethodRises}
use Rattle.constraints.proofs.OfRules.{IsMadeFrom}
use Rattle.constraints.proofs.bodies.push_constraints.Given as goal

abbrev pub invariant-loop-rule : goal.invariant-loop-rule
invariant-loop-rule l = GrowsInOrder MethodRises l.initial.constraints.items l.constraints.items (FromOne (IsMadeFrom l.method) (take l.rule-index l.rules))
