use Rattle.std.proofs.Common.{◌≡◌}
use Rattle.node_tables.specs.Rows.{AreTotals}
use Rattle.node_tables.proofs.counts.count_methods.Given as goal

abbrev pub invariant-loop-m : goal.invariant-loop-m
invariant-loop-m l = AreTotals l.scene l.m l.totals.nodes l.totals.words
