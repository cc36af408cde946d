use Rattle.std.proofs.Common.{◌≡◌, length}
use Rattle.node_tables.specs.Rows.{AreMethodRows}
use Rattle.node_tables.proofs.tables.node_rows.Given as goal

abbrev pub invariant-loop-m : goal.invariant-loop-m
invariant-loop-m l = AreMethodRows l.scene l.rows.items l.m
