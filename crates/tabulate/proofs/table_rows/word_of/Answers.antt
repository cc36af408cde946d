use Rattle.std.proofs.Common.{◌+◌, ◌*◌, ◌<◌, arith}
use Rattle.tabulate.specs.Found.{Got}
use Rattle.tabulate.proofs.RowLaws.{word_more}
use Rattle.tabulate.proofs.table_rows.word_of.Goals as goal

pub loop-bit-preserved : goal.loop-bit-preserved
loop-bit-preserved c = word_more (λ b. (64 * c.args.word + b < c.args.formals) × Got c.args.f.now c.args.found.now.items (c.args.method.now.first.0 + (64 * c.args.word + b), c.args.number)) c.loop-bit.bits c.with_bit-bits.result c.loop-bit.bit c.leads-set.result c.loop-bit.invariant c.with_bit-bits.ensures c.leads-set.ensures

pub returns : goal.returns
returns c = λ b lt. (λ h. ((c.loop-bit.invariant b).0 h).1, λ x. (c.loop-bit.invariant b).1 (omega (arith, lt, c.loop-bit-test.false), x))
