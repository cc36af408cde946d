use Rattle.std.proofs.Common.{arith}
use Rattle.digraph.proofs.Marks.{number_read}
use Rattle.digraph.proofs.Bits.{with_bit}
use Rattle.digraph.proofs.rows.set_bit.Goals as goal

pub returns-clause-bits : goal.returns-clause-bits
returns-clause-bits c =
    with_bit c.args.row.now.items c.args.node c.index_mut.result.now (omega (arith, c.args.row.now.ok.0))
    (number_read c.args.row.now.items _ _ (omega (arith, c.args.row.now.ok.0)) c.index_mut.ensures.value)
