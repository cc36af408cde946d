use Rattle.std.proofs.Common.{◌≡◌, ◌+◌, ◌++◌, ◌∷◌, List, [], take, sym, ap, subst, ◌∙◌}
use Rattle.std.proofs.lemmas.List.{take_more, take_all}
use Rattle.dep_form.specs.declared.call_site.CallSite.{CallSite}
use Rattle.dep_form.specs.declared.rules.OutsideRule.{OutsideRule}
use Rattle.constraints.specs.Calls.{AreRulesOf}
use Rattle.constraints.proofs.OfCalls.{rules_push}
use Rattle.constraints.proofs.call_sites.outside_rules.Goals as goal

pub loop-call-init : goal.loop-call-init
loop-call-init c = subst (λ (rs : List OutsideRule). AreRulesOf [] rs) (sym c.new-rules.ensures.items) tt

pub loop-call-preserved : goal.loop-call-preserved
loop-call-preserved c =
    let ks = c.args.calls.now in
    let i = c.loop-call.call-index in
    let k = c.call-item.result in
    let more : take (i + 1) ks ≡ take i ks ++ k ∷ [] = take_more ks i k c.loop-call-test.true ∙ ap (λ (z : CallSite). take i ks ++ z ∷ []) (sym c.call-item.is) in
    subst (λ (zs : List CallSite). AreRulesOf zs c.push.new.self.items) (sym more)
    (subst (λ (rs : List OutsideRule). AreRulesOf (take i ks ++ k ∷ []) rs) (sym c.in_ok-push.ensures.items) (rules_push (take i ks) c.loop-call.rules.items k c.in_ok-rule.rule c.loop-call.invariant c.in_ok-rule.ensures))

pub returns : goal.returns
returns c = subst (λ (ks : List CallSite). AreRulesOf ks c.loop-call.rules.items) (take_all c.loop-call.call-index c.args.calls.now c.loop-call-test.false) c.loop-call.invariant
