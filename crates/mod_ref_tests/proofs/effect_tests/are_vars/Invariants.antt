use Rattle.std.proofs.Common.{◌<◌, ℕ, get_or}
use Rattle.dep_form.specs.declared.rules.Var.{Var}
use Rattle.dep_form.specs.Within.{IsVar}
use Rattle.mod_ref.specs.Touched.{counts_in}
use Rattle.mod_ref_tests.proofs.effect_tests.are_vars.Given as goal

abbrev pub invariant-loop-v : goal.invariant-loop-v
invariant-loop-v l = (k : ℕ) (d : Var) → k < l.v-index → IsVar (counts_in l.parts) (get_or l.vars k d)
