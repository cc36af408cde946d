use Rattle.worklists.proofs.Growing.{FromBelow}
use Rattle.mod_ref.specs.Gains.{Gains}
use Rattle.edge_tables.specs.Links.{IsEntryLink}
use Rattle.edge_tables.proofs.links.add_entries.Given as goal

abbrev pub invariant-loop-n : goal.invariant-loop-n
invariant-loop-n l = Gains l.initial.links.items l.links.items (FromBelow (IsEntryLink l.by_target l.scene.system.now l.scene.entries.now) l.n)
