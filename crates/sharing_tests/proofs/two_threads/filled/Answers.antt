use Rattle.summary_memo.specs.Memo.{facts_of}
use Rattle.sharing_tests.proofs.SmallRow.{row_is}
use Rattle.sharing_tests.proofs.two_threads.filled.Goals as goal

pub fill-requires-clause-words : goal.fill-requires-clause-words
fill-requires-clause-words c = row_is (facts_of c.args.memo.now) c.requires.facts c.args.mode
