use Rattle.std.proofs.Common.{arith}
use Rattle.digraph.proofs.Bits.{joined_bits}
use Rattle.digraph.proofs.rows.add_row.Goals as goal

pub returns-clause-bits : goal.returns-clause-bits
returns-clause-bits c =
    joined_bits c.args.row.now.items c.args.other.now c.loop-i.row.items c.loop-i.i (omega (arith, c.args.row.now.ok.0)) (omega arith) c.loop-i.invariant
