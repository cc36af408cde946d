use Rattle.std.proofs.Common.{◌<◌, ℕ}
use Rattle.dep_form.specs.declared.rules.Var.{Var}
use Rattle.points_to.specs.Sizes.{counts}
use Rattle.dep_form.specs.Within.{IsVar}
use Rattle.std.proofs.Common.{get_or}
use Rattle.points_to.proofs.checked.are_vars.Given as goal

abbrev pub invariant-loop-v : goal.invariant-loop-v
invariant-loop-v l = (k : ℕ) (d : Var) → k < l.v-index → IsVar (counts l.n) (get_or l.vars k d)
