use Rattle.variable_tables.specs.Growth.{GrowsInOrder}
use Rattle.constraints.specs.Initializers.{FromNumbers, ClassRises}
use Rattle.constraints.proofs.initializers.push_methods.Given as goal

abbrev pub invariant-loop-number : goal.invariant-loop-number
invariant-loop-number l = GrowsInOrder ClassRises l.initial.found.items l.found.items (FromNumbers l.h l.places l.number)
