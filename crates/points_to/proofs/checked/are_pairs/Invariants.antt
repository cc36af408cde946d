use Rattle.std.proofs.Common.{◌<◌, ℕ}
use Rattle.dep_form.specs.declared.rules.Var.{Var}
use Rattle.points_to.specs.Sizes.{counts}
use Rattle.dep_form.specs.Within.{IsVar}
use Rattle.std.proofs.Common.{get_or}
use Rattle.points_to.proofs.checked.are_pairs.Given as goal

abbrev pub invariant-loop-pair : goal.invariant-loop-pair
invariant-loop-pair l = (k : ℕ) (d : (ℕ × Var)) → k < l.pair-index → (λ (p : ℕ × Var). IsVar (counts l.n) p.1) (get_or l.pairs k d)
