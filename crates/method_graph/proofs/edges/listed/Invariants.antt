use Rattle.std.proofs.Common.{◌≡◌, map, take}
use Rattle.method_graph.specs.Edges.{edge_of}
use Rattle.method_graph.proofs.edges.listed.Given as goal

abbrev pub invariant-loop-x : goal.invariant-loop-x
invariant-loop-x l = l.all.items ≡ map edge_of (take l.x-index l.edges)
