use Rattle.std.proofs.Common.{arith}
use Rattle.bit_rows.proofs.Bits.{some_bit}
use Rattle.bit_rows.proofs.rows.is_empty.Goals as goal

pub returns-then-word-ne0-clause-some : goal.returns-then-word-ne0-clause-some
returns-then-word-ne0-clause-some c = λ e. some_bit c.args.words.now c.loop-word.word-index (omega (arith, c.if-word-ne0.true)) (c.type_inv.words c.loop-word.word-index).fits
