use Rattle.std.proofs.Common.{◌<◌, ◌+◌, ◌/◌, arith}
use Rattle.bit_rows.proofs.Bits.{taken_bit}
use Rattle.bit_rows.proofs.rows.copy_taken.Goals as goal

pub returns-clause-bits : goal.returns-clause-bits
returns-clause-bits c = λ x lt.
    let low : x / 64 < c.loop-k.k = omega (arith, lt, c.loop-k-test.false, c.loop-k.auto.k-end) in
    taken_bit c.loop-k.into.items c.args.got.now c.args.todo.now c.args.at x (c.type_inv.todo (c.args.at + x / 64)).fits (c.loop-k.invariant.words (x / 64) low)
