use Rattle.std.proofs.Common.{◌≡◌, ◌++◌}
use Rattle.node_tables.specs.Segments.{arguments}
use Rattle.node_tables.proofs.segments.push_arguments.Given as goal

abbrev pub invariant-loop-i : goal.invariant-loop-i
invariant-loop-i l = l.nodes.items ≡ l.initial.nodes.items ++ arguments l.pc l.i
