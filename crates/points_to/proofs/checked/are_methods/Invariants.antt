use Rattle.std.proofs.Common.{◌<◌, ℕ}
use Rattle.dep_form.specs.declared.rules.MethodVars.{MethodVars}
use Rattle.points_to.specs.Sizes.{counts}
use Rattle.dep_form.specs.Within.{IsWithinMethod}
use Rattle.std.proofs.Common.{get_or}
use Rattle.points_to.proofs.checked.are_methods.Given as goal

abbrev pub invariant-loop-method : goal.invariant-loop-method
invariant-loop-method l = (k : ℕ) (d : MethodVars) → k < l.method-index → IsWithinMethod (counts l.n) (get_or l.methods k d)
