use Rattle.std.proofs.Common.{◌<◌, ℕ, get_or}
use Rattle.dep_form.specs.declared.node.Edge.{Edge}
use Rattle.checked_facts.specs.InputParts.{EndsAmong}
use Rattle.checked_facts.proofs.input.end_among.Given as goal

abbrev pub invariant-loop-e : goal.invariant-loop-e
invariant-loop-e l = (k : ℕ) (d : Edge) → k < l.e-index → EndsAmong l.parts (get_or l.edges k d)
