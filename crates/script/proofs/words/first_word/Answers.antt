use Rattle.std.proofs.Common.{refl, arith}
use Rattle.script.proofs.Splits.{splits_ranges}
use Rattle.script.proofs.words.first_word.Goals as goal

pub returns : goal.returns
returns c =
    splits_ranges c.args.line.now _ c.blanks-start.result c.word_len-len.result refl c.blanks-start.ensures.within c.word_len-len.ensures.within (omega arith)
    c.blanks-start.ensures.before c.word_len-len.ensures.before c.word_len-len.ensures.stop
