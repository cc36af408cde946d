use Rattle.std.proofs.Common.{◌≡◌, ◌<◌, ℕ, length, get_or, ◌+◌, count_by, not}
use Rattle.digraph.specs.Graphs.{HasEdge, IsMarked}
use Rattle.digraph.proofs.Reaching.{Searches}
use Rattle.digraph.proofs.reach.reached.Given as goal

abbrev pub invariant-loop-target : goal.invariant-loop-target
invariant-loop-target l = record {
  search : Searches (HasEdge l.graph) l.start (length l.graph) (λ a. a ≡ l.node) l.marks.items l.work.items;
  marked : IsMarked l.marks.items l.node;
  followed : (k : ℕ) → k < l.target-index → IsMarked l.marks.items (get_or l.target-items k 0);
  cost : count_by not l.marks.items + length l.work.items ≡ count_by not l.initial.marks.items + length l.initial.work.items;
}

abbrev pub invariant-loop-node : goal.invariant-loop-node
invariant-loop-node l = Searches (HasEdge l.graph) l.start (length l.graph) (λ a. ⊥) l.marks.items l.work.items

abbrev pub decreases-loop-node : goal.decreases-loop-node
decreases-loop-node l = count_by not l.marks.items + length l.work.items
