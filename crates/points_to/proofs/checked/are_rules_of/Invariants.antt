use Rattle.std.proofs.Common.{slice_get, ◌≡◌, ◌<◌, ℕ, Some}
use Rattle.dep_form.specs.declared.call_site.CallSite.{CallSite}
use Rattle.dep_form.specs.Within.{IsRuleOf}
use Rattle.dep_form.specs.declared.rules.OutsideRule.{OutsideRule}
use Rattle.points_to.proofs.checked.are_rules_of.Given as goal

abbrev pub invariant-loop-k : goal.invariant-loop-k
invariant-loop-k l = (i : ℕ) (c : CallSite) (r : OutsideRule) → i < l.k → slice_get l.calls i ≡ Some c → slice_get l.rules i ≡ Some r → IsRuleOf c r
