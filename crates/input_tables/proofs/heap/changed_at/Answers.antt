use Rattle.input_tables.proofs.MethodUses.{changed_is}
use Rattle.input_tables.proofs.heap.changed_at.Goals as goal

pub returns-in-HeapResult : goal.returns-in-HeapResult
returns-in-HeapResult c = changed_is c.args.node c.in-HeapResult.pc c.in-HeapResult.n c.in-HeapResult.is
