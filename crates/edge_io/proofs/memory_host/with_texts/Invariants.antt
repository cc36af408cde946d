use Rattle.std.proofs.Common.{◌≡◌}
use Rattle.edge_io.proofs.memory_host.with_texts.Given as goal

abbrev pub invariant-loop-name : goal.invariant-loop-name
invariant-loop-name l = l.all.items ≡ l.yielded
