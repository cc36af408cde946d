use Rattle.std.proofs.Common.{subst}
use Rattle.dep_form.specs.Within.{IsRuleOf}
use Rattle.dep_form.specs.declared.rules.OutsideRule.{OutsideRule}
use Rattle.points_to.proofs.Counting.{read_is}
use Rattle.points_to.proofs.checked.is_rule_for.Goals as goal

pub returns-in-Some : goal.returns-in-Some
returns-in-Some c = λ t r e. subst (λ (x : OutsideRule). IsRuleOf c.args.call.now x) (read_is c.args.rules.now c.args.k r c.in-Some.rule.now e c.in-Some.ensures.lookup.1) (c.is_rule_of.ensures t)
