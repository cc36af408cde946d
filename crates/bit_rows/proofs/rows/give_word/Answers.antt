use Rattle.std.proofs.Common.{arith, sym, ap, count_ones, ◌∙◌}
use Rattle.bit_rows.proofs.Bits.{adds_no_word, adds_word, count_word, counts, words_set}
use Rattle.bit_rows.proofs.rows.give_word.Goals as goal

pub returns-then-new-eq0-clause-adds : goal.returns-then-new-eq0-clause-adds
returns-then-new-eq0-clause-adds g c = adds_no_word c.args.got.now c.args.todo.now c.args.place c.args.bits c.requires.got c.without-new.ensures.word (sym c.without-new.ensures.is ∙ c.if-new-eq0.true)

pub returns-clause-adds : goal.returns-clause-adds
returns-clause-adds g c = rw c.without-new.ensures.is (adds_word c.args.got.now c.args.todo.now c.args.place c.args.bits c.requires.got c.without-new.ensures.word c.requires.todo)

pub returns-clause-turns : goal.returns-clause-turns
returns-clause-turns g c = rw c.without-new.ensures.is (omega (arith, c.turns.ensures, ap count_ones c.without-new.ensures.is, count_word c.args.got.now c.args.todo.now c.args.place c.args.bits c.requires.got c.without-new.ensures.word c.ranges.bits.fits))

pub returns-clause-moved : goal.returns-clause-moved
returns-clause-moved g c = λ lt. omega (arith, c.turns.ensures, counts _ lt)

pub returns-clause-words : goal.returns-clause-words
returns-clause-words g c = λ all. rw c.without-new.ensures.is (words_set c.args.got.now c.args.place c.args.bits c.requires.got c.ranges.bits.fits c.without-new.ensures.word all)
