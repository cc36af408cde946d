use Rattle.std.proofs.Common.{arith}
use Rattle.std.specs.Prelude.{count_ones}
use Rattle.std.proofs.lemmas.List.Sums.{sum_by_more}
use Rattle.widening.proofs.following.count_bits.Goals as goal

pub loop-word-preserved : goal.loop-word-preserved
loop-word-preserved c =
    let more = sum_by_more count_ones c.args.words.now c.loop-word.word-index 0 c.loop-word-test.true in
    (omega (arith, more, c.loop-word.invariant.0, c.count_word-ones.ensures.is), omega (arith, c.loop-word.invariant.1, c.count_word-ones.ensures.low))
