use Rattle.std.proofs.Common.{◌≡◌, take}
use Rattle.worklists.specs.Growth.{Grows, FromOne}
use Rattle.method_graph.specs.declared.locations.Access.{Access}
use Rattle.method_graph.specs.declared.edges.Ending.{Ending}
use Rattle.method_graph.specs.Flows.{HasWay}
use Rattle.method_graph.specs.Edges.{flows_to}
use Rattle.method_graph.proofs.heap_flows.add_ways.Given as goal

abbrev pub invariant-loop-source : goal.invariant-loop-source
invariant-loop-source l = Grows l.initial.edges.items l.edges.items (FromOne (λ (s : Access) (x : Ending). HasWay l.ways.width l.ways.words.items s.point l.target.point × (x ≡ flows_to s.node l.target.node)) (take l.source-index l.sources))
