use Rattle.std.proofs.Common.{refl, arith, [], ◌∷◌}
use Rattle.script.proofs.Counting.{goes_on}
use Rattle.script.proofs.Naming.{refuted}
use Rattle.script.proofs.operands.two_words.Goals as goal

pub returns-then-is_end : goal.returns-then-is_end
returns-then-is_end c = (_, (_, c.in-Some.ensures, (_, c.in-Some-first_word.ensures, refl)), c.is_end.ensures.0 c.if-is_end.true)

pub returns-else-is_end : goal.returns-else-is_end
returns-else-is_end c =
    goes_on c.args.line.now _ (_ ∷ _ ∷ []) 2 refl (_, c.in-Some.ensures, (_, c.in-Some-first_word.ensures, refl)) (refuted _ c.if-is_end.false c.is_end.ensures)

pub returns-in-None : goal.returns-in-None
returns-in-None c = (_ ∷ [], (_, (_, c.in-Some.ensures, refl), c.in-None.ensures), omega arith)
