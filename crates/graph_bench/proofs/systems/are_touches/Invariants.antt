use Rattle.std.proofs.Common.{◌<◌, ℕ, get_or}
use Rattle.dep_form.specs.declared.rules.Touch.{Touch}
use Rattle.mod_ref.specs.Touched.{IsTouchIn}
use Rattle.graph_bench.proofs.systems.are_touches.Given as goal

abbrev pub invariant-loop-touch : goal.invariant-loop-touch
invariant-loop-touch l = (k : ℕ) (d : Touch) → k < l.touch-index → IsTouchIn l.parts (get_or l.touches k d)
