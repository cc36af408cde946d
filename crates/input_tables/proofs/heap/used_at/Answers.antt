use Rattle.input_tables.proofs.MethodUses.{used_is}
use Rattle.input_tables.proofs.heap.used_at.Goals as goal

pub returns-in-HeapArg : goal.returns-in-HeapArg
returns-in-HeapArg c = used_is c.args.node c.in-HeapArg.pc c.in-HeapArg.n c.in-HeapArg.is
