use Rattle.std.proofs.Common.{arith}
use Rattle.points_to.proofs.Words.{or_bits}
use Rattle.points_to.proofs.row.or_words.Goals as goal

pub returns-clause-bits : goal.returns-clause-bits
returns-clause-bits c = or_bits c.loop-k.to.items c.args.to.now.items c.args.from.now c.loop-k.k (omega (arith, c.loop-k.auto.k-end, c.loop-k-test.false)) c.loop-k.invariant.done c.loop-k.invariant.rest
