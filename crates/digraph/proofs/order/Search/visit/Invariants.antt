use Rattle.std.proofs.Common.{ℕ}
use Rattle.digraph.specs.Graphs.{IsMarked}
use Rattle.digraph.specs.Searches.{IsSearch, steps_left}
use Rattle.digraph.proofs.order.Search.visit.Given as goal

abbrev pub invariant-loop-node : goal.invariant-loop-node
invariant-loop-node l = record {
  search : IsSearch l.graph l.self.done.items l.self.met.items l.self.left.items l.self.order.items l.self.stack.items;
  start : IsMarked l.self.met.items l.start;
  stays : (n : ℕ) → IsMarked l.fn.self.met.items n → IsMarked l.self.met.items n;
}

abbrev pub decreases-loop-node : goal.decreases-loop-node
decreases-loop-node l = steps_left l.self.met.items l.self.left.items l.self.stack.items
