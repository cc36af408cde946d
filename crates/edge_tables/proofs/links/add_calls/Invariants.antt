use Rattle.worklists.proofs.Growing.{FromBelow}
use Rattle.mod_ref.specs.Gains.{Gains}
use Rattle.edge_tables.specs.Links.{IsCallLink}
use Rattle.edge_tables.proofs.links.add_calls.Given as goal

abbrev pub invariant-loop-number : goal.invariant-loop-number
invariant-loop-number l = Gains l.initial.links.items l.links.items (FromBelow (IsCallLink l.by_target l.scene.system.now) l.number)
