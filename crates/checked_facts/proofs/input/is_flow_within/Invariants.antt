use Rattle.std.proofs.Common.{◌<◌, ℕ, get_or}
use Rattle.checked_facts.specs.InputParts.{IsFlowWithin}
use Rattle.checked_facts.proofs.input.is_flow_within.Given as goal

abbrev pub invariant-loop-step : goal.invariant-loop-step
invariant-loop-step l = (k : ℕ) (d : (ℕ × ℕ)) → k < l.step-index → IsFlowWithin l.points (get_or l.flow k d)
