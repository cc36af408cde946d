use Rattle.std.proofs.Common.{refl, sym, true≢false, arith}
use Rattle.words.proofs.Apart.{more, at_place, all_apart}
use Rattle.words.proofs.scripts.are_apart.Goals as goal

pub loop-place-preserved : goal.loop-place-preserved
loop-place-preserved c =
    more c.args.scripts.now c.loop-place.place c.index-scripts-place.result c.as_str.result.now c.loop-place-test.true c.index-scripts-place.is c.as_str.ensures c.loop-place.invariant (c.if-not-is_apart_from.ensures.0 refl)

pub returns-then-not-is_apart_from : goal.returns-then-not-is_apart_from
returns-then-not-is_apart_from c =
    (λ f. absurd (true≢false (sym f)), λ p. c.if-not-is_apart_from.ensures.1 (at_place c.args.scripts.now c.loop-place.place c.index-scripts-place.result c.as_str.result.now c.loop-place-test.true c.index-scripts-place.is c.as_str.ensures p))

pub returns : goal.returns
returns c = (λ t. all_apart c.args.scripts.now c.loop-place.place (omega (arith, c.loop-place-test.false)) c.loop-place.invariant, λ p. refl)
