use Rattle.std.proofs.Common.{◌≡◌}
use Rattle.worklists.proofs.Growing.{FromBelow}
use Rattle.node_tables.specs.Rows.{AtEntryNumber, HasNodes}
use Rattle.node_tables.proofs.counts.count_root.Given as goal

abbrev pub invariant-loop-k : goal.invariant-loop-k
invariant-loop-k l = HasNodes (FromBelow (AtEntryNumber l.scene) l.k) l.sum
