use Rattle.std.proofs.Common.{arith}
use Rattle.points_to.proofs.Counting.{rules_more, all_rules}
use Rattle.points_to.proofs.checked.are_rules_of.Goals as goal

pub loop-k-preserved : goal.loop-k-preserved
loop-k-preserved c = rules_more c.args.calls.now c.args.rules.now c.loop-k.k c.loop-k.invariant (c.is_rule_at.ensures c.if-not-is_rule_at.false)

pub returns : goal.returns
returns c = λ t. all_rules c.args.calls.now c.args.rules.now c.loop-k.k (omega (arith, c.loop-k.auto.k-end, c.loop-k-test.false)) c.loop-k.invariant
