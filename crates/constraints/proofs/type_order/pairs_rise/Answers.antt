use Rattle.std.proofs.Common.{arith}
use Rattle.signature_tables.specs.Pairs.{ClassesBefore}
use Rattle.constraints.proofs.Rising.{pair_trans, rises_more, none_rising, all_rising}
use Rattle.constraints.proofs.type_order.pairs_rise.Goals as goal

pub loop-i-init : goal.loop-i-init
loop-i-init c = none_rising ClassesBefore c.args.pairs.now

pub loop-i-preserved : goal.loop-i-preserved
loop-i-preserved c =
    rises_more ClassesBefore (λ a b d x y. pair_trans _ _ _ x y) c.args.pairs.now c.loop-i.i _ _ (omega (arith, c.loop-i.auto)) c.loop-i-test.true
    (c.comes_before.ensures.0 c.if-not-comes_before.false) c.loop-i.invariant

pub returns : goal.returns
returns c = λ t. all_rising ClassesBefore c.args.pairs.now c.loop-i.i (omega (arith, c.loop-i-test.false)) c.loop-i.invariant
