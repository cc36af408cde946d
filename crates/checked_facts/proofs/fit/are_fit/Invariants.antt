use Rattle.std.proofs.Common.{◌<◌, ℕ, get_or}
use Rattle.dep_form.specs.declared.node.Edge.{Edge}
use Rattle.checked_facts.specs.Checks.{FitsHere}
use Rattle.checked_facts.proofs.fit.are_fit.Given as goal

abbrev pub invariant-loop-e : goal.invariant-loop-e
invariant-loop-e l = (k : ℕ) (d : Edge) → k < l.e-index → FitsHere l.inputs l.accesses (get_or l.edges k d)
