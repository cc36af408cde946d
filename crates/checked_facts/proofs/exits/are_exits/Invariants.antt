use Rattle.std.proofs.Common.{◌<◌, ℕ, get_or}
use Rattle.slicer_ids.specs.declared.ids.NodeId.{NodeId}
use Rattle.slicer_ids.specs.declared.ids.MethodId.{MethodId}
use Rattle.dep_form.specs.Inputs.{IsExitNode}
use Rattle.checked_facts.proofs.exits.are_exits.Given as goal

abbrev pub invariant-loop-n : goal.invariant-loop-n
invariant-loop-n l = (k : ℕ) (d : NodeId) → k < l.n-index → (m : MethodId) × IsExitNode l.inputs (get_or l.exits k d) m
