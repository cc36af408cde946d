use Rattle.std.proofs.Common.{take, ◌≡◌, ◌++◌}
use Rattle.std.specs.Prelude.{map}
use Rattle.node_tables.specs.Segments.{heap_node}
use Rattle.node_tables.proofs.segments.push_locations.Given as goal

abbrev pub invariant-loop-n : goal.invariant-loop-n
invariant-loop-n l = l.nodes.items ≡ l.initial.nodes.items ++ map (heap_node l.heap) (take l.n-index l.locations)
