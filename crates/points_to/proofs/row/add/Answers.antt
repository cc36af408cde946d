use Rattle.std.proofs.Common.{arith}
use Rattle.points_to.proofs.Words.{one_more_at}
use Rattle.points_to.proofs.row.add.Goals as goal

pub returns-clause-adds : goal.returns-clause-adds
returns-clause-adds c = one_more_at c.widen.new.row.items c.args.row.now.items c.args.number c.index-old.result.now (omega (arith, c.in_ok-widen.ensures.len)) c.index-old.ensures c.in_ok-widen.ensures.words
