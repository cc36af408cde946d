use Rattle.std.proofs.Common.{◌<◌, ℕ, get_or}
use Rattle.dep_form.specs.declared.node.Edge.{Edge}
use Rattle.checked_facts.specs.Checks.{EndsFit}
use Rattle.checked_facts.proofs.calls.are_of_one_caller.Given as goal

abbrev pub invariant-loop-e : goal.invariant-loop-e
invariant-loop-e l = (k : ℕ) (d : Edge) → k < l.e-index → EndsFit l.inputs l.edges (get_or l.edges k d)
