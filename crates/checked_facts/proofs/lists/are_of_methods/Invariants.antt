use Rattle.std.proofs.Common.{◌<◌, ℕ, get_or}
use Rattle.slicer_ids.specs.declared.ids.Statement.{Statement}
use Rattle.dep_form.specs.WithinFacts.{IsOfMethod}
use Rattle.checked_facts.proofs.lists.are_of_methods.Given as goal

abbrev pub invariant-loop-s : goal.invariant-loop-s
invariant-loop-s l = (k : ℕ) (d : Statement) → k < l.s-index → IsOfMethod l.n.methods (get_or l.statements k d)
