use Rattle.std.proofs.Common.{◌<◌, ℕ, get_or}
use Rattle.dep_form.specs.declared.node.Edge.{Edge}
use Rattle.checked_facts.specs.Checks.{EndFits}
use Rattle.checked_facts.proofs.calls.ends_fit.Given as goal

abbrev pub invariant-loop-e : goal.invariant-loop-e
invariant-loop-e l = (k : ℕ) (d : Edge) → k < l.e-index → EndFits l.inputs l.c l.a (get_or l.edges k d)
