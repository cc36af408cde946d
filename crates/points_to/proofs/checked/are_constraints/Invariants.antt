use Rattle.std.proofs.Common.{◌<◌, ℕ}
use Rattle.dep_form.specs.declared.rules.Constraint.{Constraint}
use Rattle.points_to.specs.Sizes.{counts}
use Rattle.dep_form.specs.Within.{IsWithinConstraint}
use Rattle.std.proofs.Common.{get_or}
use Rattle.points_to.proofs.checked.are_constraints.Given as goal

abbrev pub invariant-loop-constraint : goal.invariant-loop-constraint
invariant-loop-constraint l = (k : ℕ) (d : Constraint) → k < l.constraint-index → IsWithinConstraint (counts l.n) (get_or l.constraints k d)
