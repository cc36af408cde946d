use Rattle.std.proofs.Common.{refl, arith}
use Rattle.reaching_defs.proofs.Windows.{stack_frame}
use Rattle.reaching_defs.proofs.spread.put_stacked.Goals as goal

pub put_spread-requires-clause-frame : goal.put_spread-requires-clause-frame
put_spread-requires-clause-frame c =
    stack_frame (record { shape = c.args.method.now.shape; index = c.args.method.now.index; first = c.args.method.now.shape.now.max_locals; width = c.args.method.now.depth })
    c.requires.method.flow c.requires.method.index refl c.requires.method.depth (omega (arith, c.requires.method.small))
