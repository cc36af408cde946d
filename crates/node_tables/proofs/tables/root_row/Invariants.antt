use Rattle.std.proofs.Common.{◌≡◌, ◌++◌}
use Rattle.worklists.proofs.Growing.{FromBelow}
use Rattle.node_tables.specs.Rows.{AtEntryNumber}
use Rattle.node_tables.specs.Segments.{AddsNodes}
use Rattle.node_tables.proofs.tables.root_row.Given as goal

abbrev pub invariant-loop-k : goal.invariant-loop-k
invariant-loop-k l = AddsNodes l.initial.nodes.items l.nodes.items (FromBelow (AtEntryNumber l.scene) l.k)
