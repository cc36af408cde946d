use Rattle.method_graph.specs.Edges.{AreIncoming}
use Rattle.method_graph.proofs.edges.incoming_of.Given as goal

abbrev pub invariant-loop-k : goal.invariant-loop-k
invariant-loop-k l = AreIncoming l.edges l.first l.k l.incoming.items
