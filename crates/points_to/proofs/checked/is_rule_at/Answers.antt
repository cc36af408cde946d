use Rattle.std.proofs.Common.{subst}
use Rattle.dep_form.specs.declared.call_site.CallSite.{CallSite}
use Rattle.dep_form.specs.Within.{IsRuleOf}
use Rattle.points_to.proofs.Counting.{read_is}
use Rattle.points_to.proofs.checked.is_rule_at.Goals as goal

pub returns-in-Some : goal.returns-in-Some
returns-in-Some c = λ t c' r e f. subst (λ (x : CallSite). IsRuleOf x r) (read_is c.args.calls.now c.args.k c' c.in-Some.call.now e c.in-Some.ensures.lookup.1) (c.is_rule_for.ensures t r f)
