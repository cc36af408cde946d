use Rattle.std.proofs.Common.{◌≡◌}
use Rattle.node_tables.specs.Parts.{AreGiven}
use Rattle.node_tables.proofs.parts.given_flags.Given as goal

abbrev pub invariant-loop-k : goal.invariant-loop-k
invariant-loop-k l = AreGiven l.s l.entries l.flags.items l.k
