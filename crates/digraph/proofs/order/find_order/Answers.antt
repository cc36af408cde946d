use Rattle.std.proofs.Common.{arith}
use Rattle.digraph.proofs.Searching.{whole_order}
use Rattle.digraph.proofs.order.find_order.Goals as goal

pub returns : goal.returns
returns c = whole_order c.args.graph.now _ _ _ _ c.loop-start.invariant.search (λ n lt. c.loop-start.invariant.marked n (omega (arith, lt)))
