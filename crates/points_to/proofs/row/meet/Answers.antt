use Rattle.std.proofs.Common.{arith}
use Rattle.points_to.proofs.Words.{both_members}
use Rattle.points_to.proofs.row.meet.Goals as goal

pub returns-clause-members : goal.returns-clause-members
returns-clause-members c = both_members c.loop-k.both.items c.args.a.now c.args.b.now c.loop-k.k c.loop-k.invariant.len (omega (arith, c.loop-k.auto.k-end, c.loop-k-test.false, c.shorter-count.ensures)) c.loop-k.invariant.words
