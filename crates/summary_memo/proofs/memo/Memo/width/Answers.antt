use Rattle.std.proofs.Common.{arith}
use Rattle.summary_memo.specs.Memo.{facts_of}
use Rattle.summary_memo.proofs.Widths.{next_start}
use Rattle.summary_memo.proofs.memo.Memo.width.Goals as goal

pub overflow_sub-result : goal.overflow_sub-result
overflow_sub-result c = omega (arith, c.start.ensures.start, c.start-2.ensures.start, next_start (facts_of c.args.self.now) c.args.e c.requires)

pub overflow_sub-result-2 : goal.overflow_sub-result-2
overflow_sub-result-2 c = omega (arith, c.start.ensures.start, c.start-2.ensures.start, next_start (facts_of c.args.self.now) c.args.e c.requires)

pub returns : goal.returns
returns c = omega (arith, c.start.ensures.start, c.start-2.ensures.start, next_start (facts_of c.args.self.now) c.args.e c.requires)
