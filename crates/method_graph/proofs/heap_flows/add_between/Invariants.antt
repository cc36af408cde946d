use Rattle.std.proofs.Common.{◌≡◌, take}
use Rattle.worklists.specs.Growth.{Grows, FromOne}
use Rattle.method_graph.specs.Edges.{flows_to}
use Rattle.method_graph.proofs.Between.{FromMet}
use Rattle.method_graph.proofs.heap_flows.add_between.Given as goal

abbrev pub invariant-loop-target : goal.invariant-loop-target
invariant-loop-target l = Grows l.initial.edges.items l.edges.items (FromOne (FromMet l.sources (λ s t x. x ≡ flows_to s.node t.node)) (take l.target-index l.targets))
