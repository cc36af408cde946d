use Rattle.std.proofs.Common.{refl, arith}
use Rattle.reaching_defs.proofs.Windows.{local_frame}
use Rattle.reaching_defs.proofs.spread.put_local.Goals as goal

pub put_spread-requires-clause-frame : goal.put_spread-requires-clause-frame
put_spread-requires-clause-frame c =
    local_frame (record { shape = c.args.method.now.shape; index = c.args.method.now.index; first = c.args.slot; width = 1 })
    c.requires.method.flow c.requires.method.index c.requires.slot refl (omega arith)
