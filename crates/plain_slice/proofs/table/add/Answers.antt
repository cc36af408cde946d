use Rattle.plain_slice.proofs.Adding.{table_add, grows_add}
use Rattle.plain_slice.proofs.table.add.Goals as goal

pub returns-clause-table : goal.returns-clause-table
returns-clause-table c = rw (c.in_ok-mark.ensures.marks, c.in_ok-mark.ensures.pairs) (table_add c.args.size c.args.marks.now.items c.args.pairs.now.items c.args.pair c.requires.below.0 c.requires.below.1 c.requires.table)

pub returns-clause-grown : goal.returns-clause-grown
returns-clause-grown c = rw c.in_ok-mark.ensures.pairs (grows_add c.args.size c.args.marks.now.items c.args.pairs.now.items c.args.pair c.requires.below.0 c.requires.below.1 c.requires.table)
