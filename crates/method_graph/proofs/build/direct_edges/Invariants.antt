use Rattle.std.proofs.Common.{◌≡◌, [], take}
use Rattle.worklists.specs.Growth.{Grows, FromOne}
use Rattle.dep_form.specs.declared.node.Edge.{Edge}
use Rattle.method_graph.specs.declared.edges.Ending.{Ending}
use Rattle.method_graph.specs.Edges.{ending_of}
use Rattle.method_graph.proofs.build.direct_edges.Given as goal

abbrev pub invariant-loop-edge : goal.invariant-loop-edge
invariant-loop-edge l = Grows [] l.all.items (FromOne (λ (e : Edge) (x : Ending). x ≡ ending_of e) (take l.edge-index l.edges))
