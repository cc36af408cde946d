use Rattle.std.proofs.Common.{◌≡◌, ℕ, Some, length}
use Rattle.dep_form.specs.declared.graph.Graph.{Graph}
use Rattle.method_graph.specs.Own.{graph_at}
use Rattle.method_graph.proofs.own.no_graphs.Given as goal

abbrev pub invariant-loop : goal.invariant-loop
invariant-loop l = record {
  size : length l.graphs.items ≡ l.counter;
  none : (m : ℕ) (g : Graph) → graph_at l.graphs.items m ≡ Some g → ⊥;
}
