use Rattle.digraph.proofs.Searching.{begins}
use Rattle.digraph.proofs.order.Search.new.Goals as goal

pub returns : goal.returns
returns c = (rw (c.in_ok-done.ensures, c.in_ok-met.ensures, c.in_ok-left.ensures, c.new.ensures.items) (begins c.args.graph.now), c.new-2.ensures.items)
