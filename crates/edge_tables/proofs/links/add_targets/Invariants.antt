use Rattle.std.proofs.Common.{take, ◌≡◌}
use Rattle.worklists.specs.Growth.{FromOne}
use Rattle.mod_ref.specs.Gains.{Gains}
use Rattle.edge_tables.specs.Links.{IsLinkTo}
use Rattle.edge_tables.proofs.links.add_targets.Given as goal

abbrev pub invariant-loop-target : goal.invariant-loop-target
invariant-loop-target l = Gains l.initial.links.items l.links.items (FromOne (IsLinkTo l.by_target l.number l.place) (take l.target-index l.targets))
