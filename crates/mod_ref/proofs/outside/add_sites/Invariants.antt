use Rattle.std.proofs.Common.{take, ◌≡◌}
use Rattle.worklists.specs.Growth.{FromOne}
use Rattle.mod_ref.specs.Gains.{Gains}
use Rattle.mod_ref.specs.Direct.{AtSite}
use Rattle.mod_ref.proofs.outside.add_sites.Given as goal

abbrev pub invariant-loop-site : goal.invariant-loop-site
invariant-loop-site l = Gains l.initial.effects.items.items l.effects.items.items (FromOne (AtSite l.system l.elements l.method) (take l.site-index l.sites))
