use Rattle.std.proofs.Common.{◌≡◌, map, take}
use Rattle.access_tables.specs.Objects.{start_of}
use Rattle.access_tables.proofs.objects.starts_of.Given as goal

abbrev pub invariant-loop-edge : goal.invariant-loop-edge
invariant-loop-edge l = l.starts.items ≡ map start_of (take l.edge-index l.edges)
