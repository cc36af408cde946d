use Rattle.std.proofs.Common.{◌≡◌, ◌<◌, ℕ, []}
use Rattle.digraph.specs.Graphs.{IsMarked}
use Rattle.digraph.specs.Searches.{IsSearch}
use Rattle.digraph.proofs.order.find_order.Given as goal

abbrev pub invariant-loop-start : goal.invariant-loop-start
invariant-loop-start l = record {
  search : IsSearch l.graph l.search.done.items l.search.met.items l.search.left.items l.search.order.items [];
  empty : l.search.stack.items ≡ [];
  marked : (n : ℕ) → n < l.start → IsMarked l.search.met.items n;
}
