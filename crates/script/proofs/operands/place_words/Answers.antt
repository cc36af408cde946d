use Rattle.std.proofs.Common.{refl, arith, [], ◌∷◌}
use Rattle.script.proofs.Counting.{fewer}
use Rattle.script.proofs.operands.place_words.Goals as goal

pub returns-in_default-first_word : goal.returns-in_default-first_word
returns-in_default-first_word c =
    fewer c.args.line.now _ (_ ∷ []) 4 (omega arith) (_, c.in-Some.ensures, refl) c.in_default-first_word.ensures

pub returns-in_default-first_word-2 : goal.returns-in_default-first_word-2
returns-in_default-first_word-2 c =
    fewer c.args.line.now _ (_ ∷ _ ∷ []) 4 (omega arith) (_, c.in-Some.ensures, (_, c.in-Some-first_word.ensures, refl)) c.in_default-first_word-2.ensures

pub returns-in_default-first_word-3 : goal.returns-in_default-first_word-3
returns-in_default-first_word-3 c =
    fewer c.args.line.now _ (_ ∷ _ ∷ _ ∷ []) 4 (omega arith)
    (_, c.in-Some.ensures, (_, c.in-Some-first_word.ensures, (_, c.in-Some-first_word-2.ensures, refl))) c.in_default-first_word-3.ensures
