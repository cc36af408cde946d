use Rattle.std.proofs.Common.{arith, length}
use Rattle.summary_memo.specs.Memo.{facts_of}
use Rattle.summary_memo.proofs.Apart.{data_in}
use Rattle.summary_memo.proofs.Widths.{words_few}
use Rattle.summary_memo.proofs.memo.Memo.word.Goals as goal

pub overflow_add-result : goal.overflow_add-result
overflow_add-result c =
    let f = facts_of c.args.self.now in
    let here = data_in f c.args.e c.args.mode c.args.k c.requires.exit c.requires.word in
    let few = words_few f (length f.exits) (omega arith) in
    grind (arith, here, few, c.gate.ensures)

pub overflow_add-result-2 : goal.overflow_add-result-2
overflow_add-result-2 c =
    let f = facts_of c.args.self.now in
    let here = data_in f c.args.e c.args.mode c.args.k c.requires.exit c.requires.word in
    let few = words_few f (length f.exits) (omega arith) in
    grind (arith, here, few, c.gate.ensures)
