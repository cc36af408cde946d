use Rattle.std.proofs.Common.{ℕ, ◌<◌}
use Rattle.digraph.specs.Graphs.{HasEdge, IsMarked}
use Rattle.digraph.proofs.cycle.is_next.Given as goal

abbrev pub invariant-loop-a : goal.invariant-loop-a
invariant-loop-a l = (b : ℕ) → b < l.a → IsMarked l.marks b → HasEdge l.graph b l.node → ⊥
