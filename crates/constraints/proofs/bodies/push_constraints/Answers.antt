use Rattle.std.proofs.Common.{refl}
use Rattle.worklists.specs.Growth.{FromOne}
use Rattle.variable_tables.proofs.InOrder.{grows_read, grows_start, grows_one, grows_same, from_whole}
use Rattle.constraints.specs.Bodies.{MethodRises, IsOneOf}
use Rattle.constraints.proofs.OfRules.{IsMadeFrom, one_method, from_rules, to_rules}
use Rattle.constraints.proofs.bodies.push_constraints.Goals as goal

pub loop-rule-init : goal.loop-rule-init
loop-rule-init c = grows_start MethodRises (λ x. ⊥) (IsMadeFrom c.args.method) c.args.constraints.now.items

pub loop-rule-preserved : goal.loop-rule-preserved
loop-rule-preserved c =
    grows_read MethodRises (λ x. ⊥) (λ q r. Unit {0}) (IsMadeFrom c.args.method) c.args.rules.now c.loop-rule.rule-index _
    c.args.constraints.now.items c.loop-rule.constraints.items c.push.new.self.items (λ i j d lt within. tt) (one_method c.args.method) c.loop-rule-test.true c.loop-rule.invariant
    (grows_one MethodRises (λ x. ⊥) c.loop-rule.constraints.items c.push.new.self.items _ _ c.in_ok-push.ensures.items refl (λ x. x) (λ t e. e))

pub returns : goal.returns
returns c =
    grows_same MethodRises (λ x. ⊥) c.args.constraints.now.items c.loop-rule.constraints.items (FromOne (IsMadeFrom c.args.method) c.args.rules.now) (IsOneOf c.args.method c.args.rules.now) (λ x. ⊥)
    (from_rules c.args.method c.args.rules.now) (to_rules c.args.method c.args.rules.now) (λ t p n. n) (λ t p n. n)
    (from_whole MethodRises (λ x. ⊥) (IsMadeFrom c.args.method) c.args.rules.now c.loop-rule.rule-index c.args.constraints.now.items c.loop-rule.constraints.items c.loop-rule-test.false c.loop-rule.invariant)
