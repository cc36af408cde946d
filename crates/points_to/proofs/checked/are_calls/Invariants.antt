use Rattle.std.proofs.Common.{◌<◌, ℕ}
use Rattle.dep_form.specs.declared.call_site.CallSite.{CallSite}
use Rattle.points_to.specs.Sizes.{counts}
use Rattle.dep_form.specs.Within.{IsWithinCall}
use Rattle.std.proofs.Common.{get_or}
use Rattle.points_to.proofs.checked.are_calls.Given as goal

abbrev pub invariant-loop-call : goal.invariant-loop-call
invariant-loop-call l = (k : ℕ) (d : CallSite) → k < l.call-index → IsWithinCall (counts l.n) (get_or l.calls k d)
