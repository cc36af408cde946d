use Rattle.script.proofs.words.word_len.Goals as goal

pub returns-then-is_blank-clause-before : goal.returns-then-is_blank-clause-before
returns-then-is_blank-clause-before c = c.loop-i.invariant
