use Rattle.script.proofs.words.blanks.Goals as goal

pub returns-then-not-is_blank-clause-before : goal.returns-then-not-is_blank-clause-before
returns-then-not-is_blank-clause-before c = c.loop-i.invariant
