use Rattle.std.proofs.Common.{◌<◌, ℕ, get_or}
use Rattle.slicer_ids.specs.declared.ids.MethodId.{MethodId}
use Rattle.call_graph.specs.ByNumber.{HasNativeFlag}
use Rattle.call_graph.proofs.refusals.has_native.Given as goal

abbrev pub invariant-loop-target : goal.invariant-loop-target
invariant-loop-target l = (k : ℕ) (d : MethodId) → k < l.target-index → HasNativeFlag l.system (get_or l.targets k d) → ⊥
