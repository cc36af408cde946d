use Rattle.std.proofs.Common.{arith}
use Rattle.signature_tables.proofs.SubPairs.{class_done}
use Rattle.signature_tables.proofs.subclasses.push_class.Goals as goal

pub returns : goal.returns
returns c = class_done c.args.h.now c.args.a c.loop-b.b c.loop-b.pairs.items (omega arith) c.loop-b.invariant
