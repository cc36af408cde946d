use Rattle.std.proofs.Common.{arith}
use Rattle.points_to.proofs.Words.{word_keeps, word_only}
use Rattle.points_to.proofs.row.add_word.Goals as goal

pub returns-clause-keeps : goal.returns-clause-keeps
returns-clause-keeps c = word_keeps c.widen.new.row.items c.args.row.now.items c.args.place c.index-old.result.now c.args.bits (omega (arith, c.in_ok-widen.ensures.len)) c.index-old.ensures c.in_ok-widen.ensures.words

pub returns-clause-only : goal.returns-clause-only
returns-clause-only c = word_only c.widen.new.row.items c.args.row.now.items c.args.place c.index-old.result.now c.args.bits (omega (arith, c.in_ok-widen.ensures.len)) c.index-old.ensures c.in_ok-widen.ensures.words
